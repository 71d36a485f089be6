use Rattle.std.proofs.Common.{is_ok, ◌∙◌, rules, tests}
use Rattle.std.proofs.lemmas.Iterator.{YieldsList-from_slice}
use Rattle.std.proofs.lemmas.Iterator.Search.{all_from_yields_List}
use Rattle.label.specs.Clauses.{written_at}
use Rattle.sheet.proofs.Records.{written_each}
use Rattle.sheet.proofs.writing.all_written.Goals as goal

pub returns : goal.returns
returns g c =
    let F = g.L.Label.form in
    all_from_yields_List (λ x. is_ok (written_at (F.tells (g.L.Label.stands x.label)) 0)) _ _ _ c.all.ensures.ran (YieldsList-from_slice c.args.lines.now cc) (λ x b q k. search (rules, tests))
    ∙ written_each F g.L.Label.stands c.args.lines.now

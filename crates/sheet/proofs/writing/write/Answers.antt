use Rattle.std.proofs.Common.{sym, refl, arith}
use Rattle.std.proofs.lemmas.Bool.{both_ways}
use Rattle.net.specs.Verdict.{here, later}
use Rattle.net.specs.Model.{lines_of}
use Rattle.sheet.specs.Sheet.{all_written}
use Rattle.sheet.proofs.Records.{written_from, written_all}
use Rattle.sheet.proofs.writing.write.Goals as goal

pub returns-in_default : goal.returns-in_default
returns-in_default g c = (here c.in_default.ensures.1, refl)

pub returns-then-not-all_written : goal.returns-then-not-all_written
returns-then-not-all_written g c =
    let F = g.K.Label.form in
    let ls = lines_of g.K.Label.stands c.args.draft.now.lines c.args.list.now in
    let no = rw c.in-Ok.ensures.1 at c.if-not-all_written.ensures in
    (later (λ other. other c.in-Ok.ensures.0) (here (λ all. both_ways (all_written F ls) (sym no) (written_all F ls all))), refl)

pub returns-then-out-length : goal.returns-then-out-length
returns-then-out-length g c =
    let F = g.K.Label.form in
    let ls = lines_of g.K.Label.stands c.args.draft.now.lines c.args.list.now in
    let yes = rw c.in-Ok.ensures.1 at c.if-not-all_written.ensures in
    let long = rw (c.nodes.ensures, c.in-Ok.ensures.1) at c.length.ensures in
    (later (λ other. other c.in-Ok.ensures.0) (later (λ unwritten. unwritten (written_from F ls (sym yes))) (here (omega arith))), refl)

pub returns : goal.returns
returns g c =
    let F = g.K.Label.form in
    let ls = lines_of g.K.Label.stands c.args.draft.now.lines c.args.list.now in
    let yes = rw c.in-Ok.ensures.1 at c.if-not-all_written.ensures in
    let long = rw (c.nodes.ensures, c.in-Ok.ensures.1) at c.length.ensures in
    ((λ other. other c.in-Ok.ensures.0, (λ unwritten. unwritten (written_from F ls (sym yes)), (λ short. omega arith, tt))), (rw (c.nodes.ensures, c.in-Ok.ensures.1) at c.put.ensures.long, rw (c.nodes.ensures, c.in-Ok.ensures.1) at c.put.ensures.bytes))

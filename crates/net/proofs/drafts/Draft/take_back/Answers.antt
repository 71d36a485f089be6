use Rattle.std.proofs.Common.{refl, arith}
use Rattle.std.proofs.lemmas.Result.{err_from_is_err_and}
use Rattle.net.specs.Verdict.{here, later}
use Rattle.net.proofs.Steps.{lines_count}
use Rattle.net.proofs.Drawings.{line_taken_back}
use Rattle.net.proofs.drafts.Draft.take_back.Goals as goal

pub returns-in_err-drawn : goal.returns-in_err-drawn
returns-in_err-drawn g c =
    let p = err_from_is_err_and c.from_residual.result c.from_residual.ensures.1 in
    rw (p.1, p.2, c.in_err-drawn.ensures.0) (here c.in_err-drawn.ensures.1, refl)

pub returns-then-self-eq0 : goal.returns-then-self-eq0
returns-then-self-eq0 g c =
    let d = c.args.self.now in
    let own = c.in_ok-drawn.ensures.0 in
    let many = lines_count g.L.Label.stands c.args.list.now d.lines (omega arith) in
    (later (λ ne. ne own) (here (omega arith)), refl)

pub returns : goal.returns
returns g c =
    let d = c.args.self.now in
    let own = c.in_ok-drawn.ensures.0 in
    let many = lines_count g.L.Label.stands c.args.list.now d.lines (omega arith) in
    ((λ ne. ne own, (λ none. omega arith, tt)), line_taken_back g.L.Label.group g.L.Label.stands d _ c.args.list.now (omega arith) (omega arith) refl refl)

use Rattle.std.proofs.lemmas.Result.{err_from_is_err_and}
use Rattle.net.specs.Verdict.{here, later}
use Rattle.net.proofs.drafts.Draft.ports.Goals as goal

pub returns-in_err-lines : goal.returns-in_err-lines
returns-in_err-lines g c =
    let p = err_from_is_err_and c.from_residual.result c.from_residual.ensures.1 in
    rw (p.1, p.2, c.in_err-lines.ensures.0) (here c.in_err-lines.ensures.1, tt)

pub returns-then-node-self : goal.returns-then-node-self
returns-then-node-self g c = (later (λ ne. ne c.in_ok-lines.ensures.0) (here c.if-node-self.true), tt)

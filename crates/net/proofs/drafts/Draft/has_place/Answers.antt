use Rattle.std.proofs.Common.{inl, inr, arith}
use Rattle.net.specs.Verdict.{here, later}
use Rattle.net.proofs.Steps.{lines_count}
use Rattle.net.proofs.drafts.Draft.has_place.Goals as goal
use Rattle.net.proofs.drafts.Draft.has_place.Goals.{then-line-self-via-then-line-self, then-line-self-via-else-line-self+then-line-self-2}

pub returns-then-line-self : goal.returns-then-line-self
returns-then-line-self g c =
    λ list own. (
      here (elim c.then-line-self.branch [
        | then-line-self-via-then-line-self w ↦ inl w.if-line-self.true
        | then-line-self-via-else-line-self+then-line-self-2 w ↦ inr w.if-line-self-2.true
      ]),
      tt,
    )

pub returns-then-full : goal.returns-then-full
returns-then-full g c =
    λ list own.
    let d = c.args.self.now in
    let many = lines_count g.L.Label.stands list d.lines (omega arith) in
    (later (λ off. elim off [ inl t ↦ omega arith | inr h ↦ omega arith ]) (here (elim c.if-full.ensures [ inl t ↦ inl (omega arith) | inr h ↦ inr (omega arith) ])), tt)

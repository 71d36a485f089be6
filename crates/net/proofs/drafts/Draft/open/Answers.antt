use Rattle.std.proofs.Common.{refl, inl, inr, arith}
use Rattle.mesh.specs.Drawn.{blank}
use Rattle.net.specs.Verdict.{here}
use Rattle.net.proofs.drafts.Draft.open.Goals as goal

pub returns-then-nodes-lt1 : goal.returns-then-nodes-lt1
returns-then-nodes-lt1 g c = (here (elim c.then-nodes-lt1.either [ inl t ↦ inl t | inr h ↦ inr h.1 ]), tt)

pub returns : goal.returns
returns g c = ((λ out. elim out [ inl t ↦ omega arith | inr h ↦ omega arith ], tt), record { net = refl; same_nodes = refl; blank = refl; room = refl; drawn = blank })

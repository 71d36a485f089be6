use Rattle.mesh.proofs.Balls.{finite_laws}
use Rattle.mesh.proofs.balls_are_finite.Goals as goal

pub returns : goal.returns
returns g c = finite_laws g.K.AnyOrdered.group g.K.AnyOrdered.order

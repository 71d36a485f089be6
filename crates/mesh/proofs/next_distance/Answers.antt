use Rattle.mesh.proofs.Walks.{step_laws}
use Rattle.mesh.proofs.next_distance.Goals as goal

pub returns : goal.returns
returns g c = step_laws g.K.AnyGraph.Joined g.K.AnyGraph.symmetric

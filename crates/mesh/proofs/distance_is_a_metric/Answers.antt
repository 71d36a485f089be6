use Rattle.mesh.proofs.Walks.{distance_laws}
use Rattle.mesh.proofs.distance_is_a_metric.Goals as goal

pub returns : goal.returns
returns g c = distance_laws g.K.AnyGraph.Joined g.K.AnyGraph.symmetric

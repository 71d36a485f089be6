use Rattle.mesh.specs.Link.{Link}
use Rattle.mesh.proofs.Carries.{link_back}
use Rattle.mesh.proofs.Walks.{distance_laws}
use Rattle.mesh.proofs.mesh_distance_is_a_metric.Goals as goal

pub returns : goal.returns
returns g c = λ net. distance_laws (Link g.K.AnyGroup.group net) (link_back g.K.AnyGroup.group net)

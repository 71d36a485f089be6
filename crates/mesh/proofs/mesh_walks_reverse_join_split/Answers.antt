use Rattle.mesh.specs.Link.{Link}
use Rattle.mesh.proofs.Carries.{link_back}
use Rattle.mesh.proofs.Walks.{walk_laws}
use Rattle.mesh.proofs.mesh_walks_reverse_join_split.Goals as goal

pub returns : goal.returns
returns g c = λ net. walk_laws (Link g.K.AnyGroup.group net) (link_back g.K.AnyGroup.group net)

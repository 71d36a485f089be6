use Rattle.mesh.proofs.Carries.{link_back}
use Rattle.mesh.proofs.links_are_symmetric.Goals as goal

pub returns : goal.returns
returns g c = link_back g.K.AnyGroup.group

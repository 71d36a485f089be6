use Rattle.mesh.proofs.Carries.{carried}
use Rattle.mesh.proofs.distances_are_carried.Goals as goal

pub returns : goal.returns
returns g c = carried g.K.AnyGroup.group

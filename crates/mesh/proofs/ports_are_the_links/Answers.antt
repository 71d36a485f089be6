use Rattle.mesh.proofs.Targets.{ported}
use Rattle.mesh.proofs.ports_are_the_links.Goals as goal

pub returns : goal.returns
returns g c = ported g.K.AnyGroup.group

use Rattle.mesh.proofs.Drawings.{drawn_laws}
use Rattle.mesh.proofs.drawn_ports_differ.Goals as goal

pub returns : goal.returns
returns g c = drawn_laws g.K.AnyGroup.group

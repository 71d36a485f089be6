use Rattle.mesh.proofs.Shells.{shell_laws}
use Rattle.mesh.proofs.next_shell.Goals as goal

pub returns : goal.returns
returns g c = shell_laws g.K.AnyGroup.group

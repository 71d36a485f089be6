use Rattle.mesh.specs.Shell.{Shell, Ball}
use Rattle.mesh.proofs.Counts.{count_laws}
use Rattle.mesh.proofs.counting_shells.Goals as goal

pub returns : goal.returns
returns g c = λ net v k. (count_laws (Shell g.K.AnyGroup.group net v k), count_laws (Ball g.K.AnyGroup.group net v k))

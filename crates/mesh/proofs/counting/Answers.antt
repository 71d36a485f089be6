use Rattle.mesh.proofs.Counts.{count_laws}
use Rattle.mesh.proofs.counting.Goals as goal

pub returns : goal.returns
returns g c = count_laws g.K.AnyProperty.Holds

use Rattle.reference_shells.proofs.Computed.{reference_laws}
use Rattle.reference_shells.proofs.reference_shells_counted.Goals as goal

pub returns : goal.returns
returns c = reference_laws

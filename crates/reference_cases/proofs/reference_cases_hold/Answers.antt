use Rattle.reference_cases.proofs.Computed.{reference_laws}
use Rattle.reference_cases.proofs.reference_cases_hold.Goals as goal

pub returns : goal.returns
returns c = reference_laws

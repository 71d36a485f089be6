use Rattle.reference_shells.proofs.Search.{breadth_first_laws}
use Rattle.reference_shells.proofs.breadth_first_finds_shells.Goals as goal

pub returns : goal.returns
returns g c = breadth_first_laws g.K.AnyOrdered.group g.K.AnyOrdered.order

use Rattle.rings.proofs.Smallest.{small_laws}
use Rattle.rings.proofs.smallest_rings.Goals as goal

pub returns : goal.returns
returns g c = small_laws g.K.AnyGraph.Joined g.K.AnyGraph.symmetric

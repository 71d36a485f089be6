use Rattle.rings.proofs.RingCounts.{ring_count_laws}
use Rattle.rings.proofs.rings_counted.Goals as goal

pub returns : goal.returns
returns g c = ring_count_laws g.K.AnyGraph.Joined g.K.AnyGraph.symmetric

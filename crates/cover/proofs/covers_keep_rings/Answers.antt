use Rattle.cover.proofs.RingNumbers.{ring_cover_laws}
use Rattle.cover.proofs.covers_keep_rings.Goals as goal

pub returns : goal.returns
returns g c f R cv = ring_cover_laws g.K.AnyGraph.symmetric g.B.AnyGraph.symmetric cv

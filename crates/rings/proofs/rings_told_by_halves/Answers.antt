use Rattle.rings.proofs.HalfWay.{half_way_laws}
use Rattle.rings.proofs.rings_told_by_halves.Goals as goal

pub returns : goal.returns
returns g c = half_way_laws g.K.AnyGraph.Joined g.K.AnyGraph.symmetric

use Rattle.rings.proofs.Turns.{turn_laws}
use Rattle.rings.proofs.rings_turned.Goals as goal

pub returns : goal.returns
returns g c = turn_laws g.K.AnyGraph.Joined g.K.AnyGraph.symmetric

use Rattle.cover.proofs.Shells.{cover_laws}
use Rattle.cover.proofs.covers_keep_shells.Goals as goal

pub returns : goal.returns
returns g c f R cv = cover_laws g.K.AnyGraph.symmetric cv

use Rattle.mesh.proofs.Walks.{walk_laws}
use Rattle.mesh.proofs.walks_reverse_join_split.Goals as goal

pub returns : goal.returns
returns g c = walk_laws g.K.AnyGraph.Joined g.K.AnyGraph.symmetric

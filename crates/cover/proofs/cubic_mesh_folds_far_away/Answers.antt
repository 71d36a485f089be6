use Rattle.cover.proofs.Smalls.{cubic_laws}
use Rattle.cover.proofs.cubic_mesh_folds_far_away.Goals as goal

pub returns : goal.returns
returns c = cubic_laws

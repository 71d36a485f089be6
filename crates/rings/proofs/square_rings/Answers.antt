use Rattle.rings.proofs.Square.{square_laws}
use Rattle.rings.proofs.square_rings.Goals as goal

pub returns : goal.returns
returns c = square_laws

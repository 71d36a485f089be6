-- How translations by whole numbers wrap to translations of 32 bits. Assumes nothing.
use Rattle.lattice.specs.Triples.{Triple, triple}
use Rattle.mesh.specs.Junction.{Junction, spot}
use Rattle.cover.specs.Whole.{Whole}

-- the wrapping translation to which three whole numbers wrap
abbrev pub wrap : Whole → Triple
wrap x = triple x.0 x.1.0 x.1.1

-- the numbers of a wrapping translation, as whole numbers
abbrev pub unwrapped : Triple → Whole
unwrapped t = (t.0.0, (t.1.0.0, t.1.1.0))

-- the junction to which a junction over the whole numbers wraps
abbrev pub wrap_junction : Junction Whole → Junction Triple
wrap_junction a = spot a.node (wrap a.label)

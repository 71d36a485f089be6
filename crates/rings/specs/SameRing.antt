-- When two lists are the same ring. Assumes nothing.
use Rattle.std.specs.Prelude.{◌↔◌, List}
use Rattle.rings.specs.Uses.{Uses}

-- the lists c and d are the same ring: they use the same links, wherever they begin and whichever way round they go
abbrev pub SameRing : {J : Type 0} (c d : List J) → Type 0
SameRing {J} c d = (a b : J) → Uses c a b ↔ Uses d a b

-- What is proved of being the same ring. Assumes nothing.
use Rattle.std.specs.Prelude.{List}
use Rattle.rings.specs.SameRing.{SameRing}

-- to be the same ring is an equivalence
pub record SameRingLaws (J : Type 0) : Type 0 where
  pub itself : (c : List J) → SameRing c c
  pub turned : (c d : List J) → SameRing c d → SameRing d c
  pub chained : (c d e : List J) → SameRing c d → SameRing d e → SameRing c e

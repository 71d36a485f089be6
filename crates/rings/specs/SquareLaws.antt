-- What is proved of the square, alone and with one diagonal. Assumes nothing.
use Rattle.std.specs.Prelude.{◌≡◌, ℕ, List, [], ◌∷◌, length}
use Rattle.rings.specs.Ring.{Ring}
use Rattle.rings.specs.RingsOf.{RingsOf}
use Rattle.rings.specs.Square.{Side, square, Braced}

-- the rings of length 4 of the square
pub record SquareLaws : Type 0 where
  -- it is a ring
  pub ring : Ring Side square
  -- and the one ring of length 4 through the two links at a corner
  pub counted : RingsOf Side 4 0 1 3 1
  -- with a diagonal it has no ring of length 4
  pub braced : (c : List ℕ) → length c ≡ 4 → Ring Braced c → ⊥
  -- but one of length 3
  pub half : Ring Braced (0 ∷ 1 ∷ 2 ∷ [])

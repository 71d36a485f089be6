-- An example: the square, alone and with one diagonal. Assumes nothing.
use Rattle.std.specs.Prelude.{◌≡◌, ℕ, ◌⊎◌, List, [], ◌∷◌}
use Rattle.rings.specs.Ahead.{Next}

-- the corners are 0 to 3, and each is linked to the one before and the one after
abbrev pub Side : ℕ → ℕ → Type 0
Side a b = Next 4 a b ⊎ Next 4 b a

-- the four corners in their order
abbrev pub square : List ℕ
square = 0 ∷ 1 ∷ 2 ∷ 3 ∷ []

-- the sides, and a link of 0 and 2
abbrev pub Braced : ℕ → ℕ → Type 0
Braced a b = Side a b ⊎ (((a ≡ 0) × (b ≡ 2)) ⊎ ((a ≡ 2) × (b ≡ 0)))

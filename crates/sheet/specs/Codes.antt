-- How the numbers of a written label are stored. Assumes nothing.
use Rattle.std.specs.Prelude.{ℕ, suc, ◌+◌, ◌*◌, List, [], ◌∷◌, ℤ, pos, negsuc}
use Rattle.label.specs.declared.written.Slot.{Slot}
use Rattle.label.specs.declared.written.Storage.{Storage}
use Rattle.label.specs.declared.written.Storage.TheVariants.{Signed, Image}

-- a signed number n as 2n if it is 0 or more, else as -2n - 1; an image as itself
abbrev pub code : Storage → ℤ → ℕ
code Signed (pos n) = 2 * n
code Signed (negsuc n) = 2 * n + 1
code Image (pos n) = n
code Image (negsuc n) = suc n

-- each number by its slot's storage
abbrev pub codes : List Slot → List ℤ → List ℕ
codes [] xs = []
codes (s ∷ ss) [] = []
codes (s ∷ ss) (x ∷ xs) = code s.storage x ∷ codes ss xs

-- Permutations as text. Assumes nothing.
use Rattle.std.specs.Prelude.{ℕ, List, [], ◌∷◌, ◌++◌, codes, decimal}
use Rattle.label.specs.PairText.{with_blank}
use Rattle.symmetric.specs.Images.{Perm}
use Rattle.permutation.specs.Permutations.{perm_packed}
use Rattle.permutation.specs.declared.packed.PackedNumber.{PackedNumber}

-- numbers with a blank between each two
abbrev pub spaced : List ℕ → List ℕ
spaced [] = []
spaced (n ∷ []) = decimal n
spaced (n ∷ m ∷ ns) = with_blank (decimal n) (spaced (m ∷ ns))

-- the images of 0 to 7
abbrev pub images_text : Perm → List ℕ
images_text p = codes "[" ++ (spaced p.0 ++ codes "]")

-- the permutation that the number stands for
abbrev pub permutation_text : PackedNumber → List ℕ
permutation_text n = images_text (perm_packed n.0)

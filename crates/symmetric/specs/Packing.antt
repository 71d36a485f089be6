-- Permutations packed in one number, three bits an image. Assumes nothing.
use Rattle.std.specs.Prelude.{ℕ, zero, suc, ◌+◌, ◌*◌, ◌/◌, ◌%◌, ◌^◌, Bool, cond, ◌&&◌, List, [], ◌∷◌, nat_lt}
use Rattle.symmetric.specs.Images.{each_once, unmoved}

-- the k lowest base-8 digits of n, the lowest first
abbrev pub digits_of : ℕ → ℕ → List ℕ
digits_of zero n = []
digits_of (suc k) n = n % 8 ∷ digits_of k (n / 8)

-- the image of i is the i-th digit
abbrev pub digits : ℕ → List ℕ
digits n = digits_of 8 n

-- the number with these digits
abbrev pub with_digits : List ℕ → ℕ
with_digits [] = 0
with_digits (x ∷ xs) = x + 8 * with_digits xs

-- n has at most eight digits, and among those each point stands exactly once
abbrev pub packs : ℕ → Bool
packs n = nat_lt n (2 ^ 24) && each_once (digits n)

-- the images that a number stands for: those that it packs, and else those of the identity
abbrev pub chosen : ℕ → List ℕ
chosen n = cond (packs n) (digits n) unmoved

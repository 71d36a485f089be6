-- The permutations of the points 0 to 7, as the lists of their images. Assumes nothing.
use Rattle.std.specs.Prelude.{◌≡◌, ℕ, zero, suc, Bool, true, cond, ◌&&◌, List, [], ◌∷◌, map, length, count_by, ◌==◌, nat_eq, nat_lt, slice_index}

-- how often k stands in xs
abbrev pub occ : ℕ → List ℕ → ℕ
occ k xs = count_by (λ x. nat_eq x k) xs

-- all are points
abbrev pub points : List ℕ → Bool
points [] = true
points (x ∷ xs) = nat_lt x 8 && points xs

-- k stands in xs exactly once
abbrev pub once : ℕ → List ℕ → Bool
once k xs = occ k xs == 1

-- each number below n stands in xs exactly once
abbrev pub once_below : ℕ → List ℕ → Bool
once_below zero xs = true
once_below (suc n) xs = once n xs && once_below n xs

-- each point stands in xs exactly once
unfoldable pub each_once : List ℕ → Bool
each_once xs = once_below 8 xs

-- the eight images of a permutation: points, each exactly once
abbrev pub permutes : List ℕ → Bool
permutes xs = length xs == 8 && (points xs && each_once xs)

-- a permutation of the points 0 to 7: the image of i stands at i
abbrev pub Perm : Type 0
Perm = (xs : List ℕ) × (permutes xs ≡ true)

-- every point stays
abbrev pub unmoved : List ℕ
unmoved = 0 ∷ 1 ∷ 2 ∷ 3 ∷ 4 ∷ 5 ∷ 6 ∷ 7 ∷ []

-- p first, and then q
abbrev pub followed : List ℕ → List ℕ → List ℕ
followed p q = map (λ i. slice_index q i) p

-- where k first stands in xs
abbrev pub place : ℕ → List ℕ → ℕ
place k [] = 0
place k (x ∷ xs) = cond (x == k) 0 (suc (place k xs))

-- the inverse: each point goes to the one whose image it is
abbrev pub undone : List ℕ → List ℕ
undone p = map (λ k. place k p) unmoved

-- Lists without repetition, by their places. Assumes nothing.
use Rattle.std.proofs.Common.{◌≡◌, ℕ, suc, ◌<◌, ◌⊎◌, List, [], ◌∷◌, length, get_or, inl, inr, arith}
use native.Mathlib.Decide.{dec_lt}
use Rattle.mesh.specs.Listed.{In}
use Rattle.mesh.specs.Exactly.{Distinct}
use Rattle.mesh.proofs.Lists.{one_place}

-- one is below, the same or above
pub compared : (i j : ℕ) → (i < j) ⊎ ((i ≡ j) ⊎ (j < i))
compared i j = elim (dec_lt i j) [ yes h ↦ inl h | no h ↦ elim (dec_lt j i) [ yes k ↦ inr (inr k) | no k ↦ inr (inl (omega arith)) ] ]

-- what stands in a list stands at a place
placed : {J : Type 0} (d x : J) (xs : List J) → In x xs → (i : ℕ) × (i < length xs) × (x ≡ get_or xs i d)
placed d x [] m = absurd m
placed d x (y ∷ ys) (inl e) = (0, omega arith, e)
placed d x (y ∷ ys) (inr m) = let p = placed d x ys m in (suc p.0, omega arith, p.2)

pub different : {J : Type 0} (xs : List J) → Distinct xs → (d : J) (i j : ℕ) → i < j → j < length xs → get_or xs i d ≡ get_or xs j d → ⊥
different xs s d i j b h e = let f = one_place xs s i j d (omega arith) h e in omega arith

pub distinct_by_places : {J : Type 0} (xs : List J) → ((d : J) (i j : ℕ) → i < j → j < length xs → get_or xs i d ≡ get_or xs j d → ⊥) → Distinct xs
distinct_by_places [] f = tt
distinct_by_places (x ∷ xs) f = (
  λ m. let p = placed x x xs m in f x 0 (suc p.0) (omega arith) (omega arith) p.2,
  distinct_by_places xs (λ d i j b h e. f d (suc i) (suc j) (omega arith) (omega arith) e),
)

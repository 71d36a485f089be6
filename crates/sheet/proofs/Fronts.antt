-- A number that was written over the front of bytes.
use Rattle.std.proofs.Common.{◌≡◌, ℕ, ◌<◌, List, [], ◌∷◌, ◌++◌, length, drop, set, sym, refl, subst, arith}
use Rattle.sheet.specs.Stored.{stored}

module _ {X : Type 0} where
  pub set_one : (xs : List X) (a : X) → 0 < length xs → set xs 0 a ≡ a ∷ drop 1 xs
  set_one [] a h = absurd (let z : ⊥ = omega arith in z)
  set_one (x ∷ xs) a h = refl

  pub set_two : (xs : List X) (a b : X) → 1 < length xs → set (set xs 0 a) 1 b ≡ a ∷ b ∷ drop 2 xs
  set_two [] a b h = absurd (let z : ⊥ = omega arith in z)
  set_two (x ∷ []) a b h = absurd (let z : ⊥ = omega arith in z)
  set_two (x ∷ y ∷ xs) a b h = refl

  pub set_three : (xs : List X) (a b c : X) → 2 < length xs → set (set (set xs 0 a) 1 b) 2 c ≡ a ∷ b ∷ c ∷ drop 3 xs
  set_three [] a b c h = absurd (let z : ⊥ = omega arith in z)
  set_three (x ∷ []) a b c h = absurd (let z : ⊥ = omega arith in z)
  set_three (x ∷ y ∷ []) a b c h = absurd (let z : ⊥ = omega arith in z)
  set_three (x ∷ y ∷ z ∷ xs) a b c h = refl

-- the bytes that were written are the number's
pub as_stored : (n : ℕ) (bs xs ys : List ℕ) → stored n ≡ bs → ys ≡ bs ++ drop (length bs) xs → ys ≡ stored n ++ drop (length (stored n)) xs
as_stored n bs xs ys e h = subst (λ (q : List ℕ). ys ≡ q ++ drop (length q) xs) (sym e) h

-- What stands at a place of a list.
use Rattle.std.proofs.Common.{◌≡◌, ℕ, zero, suc, ◌<◌, List, [], ◌∷◌, map, length, take, set, Some, option_map, sym, refl, ap, ◌∙◌, inl, inr, arith}
use Rattle.std.specs.List.{slice_get}
use Rattle.std.proofs.lemmas.Option.{slice_get-map}
use Rattle.mesh.specs.Listed.{In}

pub nth_set_same : {X : Type 0} (xs : List X) (i : ℕ) (v : X) → i < length xs → slice_get (set xs i v) i ≡ Some v
nth_set_same [] i v h = absurd (let z : ⊥ = omega arith in z)
nth_set_same (x ∷ xs) zero v h = refl
nth_set_same (x ∷ xs) (suc i) v h = nth_set_same xs i v (omega arith)

pub nth_set_other : {X : Type 0} (xs : List X) (i j : ℕ) (v : X) → (j ≡ i → ⊥) → slice_get (set xs i v) j ≡ slice_get xs j
nth_set_other [] i j v n = refl
nth_set_other (x ∷ xs) zero zero v n = absurd (n refl)
nth_set_other (x ∷ xs) zero (suc j) v n = refl
nth_set_other (x ∷ xs) (suc i) zero v n = refl
nth_set_other (x ∷ xs) (suc i) (suc j) v n = nth_set_other xs i j v (λ e. n (ap suc e))

pub nth_there : {X : Type 0} (xs : List X) (i : ℕ) → i < length xs → (x : X) × (slice_get xs i ≡ Some x)
nth_there [] i h = absurd (let z : ⊥ = omega arith in z)
nth_there (x ∷ xs) zero h = (x, refl)
nth_there (x ∷ xs) (suc i) h = nth_there xs i (omega arith)

-- writing what stands there changes nothing
pub set_there : {X : Type 0} (xs : List X) (i : ℕ) (x : X) → slice_get xs i ≡ Some x → set xs i x ≡ xs
set_there [] i x e = refl
set_there (y ∷ xs) zero x e = let p : x ≡ y = cc in ap (λ z. z ∷ xs) p
set_there (y ∷ xs) (suc i) x e = ap (λ zs. y ∷ zs) (set_there xs i x e)

pub nth_map : {X Y : Type 0} (f : X → Y) (xs : List X) (i : ℕ) (x : X) → slice_get xs i ≡ Some x → slice_get (map f xs) i ≡ Some (f x)
nth_map f xs i x e = slice_get-map f xs i ∙ ap (option_map f) e

pub nth_take : {X : Type 0} (n : ℕ) (xs : List X) (i : ℕ) → i < n → slice_get (take n xs) i ≡ slice_get xs i
nth_take zero xs i h = absurd (let z : ⊥ = omega arith in z)
nth_take (suc n) [] i h = refl
nth_take (suc n) (x ∷ xs) zero h = refl
nth_take (suc n) (x ∷ xs) (suc i) h = nth_take n xs i (omega arith)

pub in_nth : {X : Type 0} (x : X) (xs : List X) → In x xs → (i : ℕ) × (i < length xs) × (slice_get xs i ≡ Some x)
in_nth x [] h = absurd h
in_nth x (y ∷ xs) (inl e) = (0, omega arith, ap Some (sym e))
in_nth x (y ∷ xs) (inr h) = let r = in_nth x xs h in (suc r.0, (let k = r.1 in omega arith), r.2)

pub nth_in : {X : Type 0} (xs : List X) (i : ℕ) (x : X) → slice_get xs i ≡ Some x → In x xs
nth_in [] i x e = absurd (let z : ◌≡◌ {A = ℕ} 0 1 = cc in let n : ⊥ = omega arith in n)
nth_in (y ∷ xs) zero x e = inl (let p : x ≡ y = cc in p)
nth_in (y ∷ xs) (suc i) x e = inr (nth_in xs i x e)

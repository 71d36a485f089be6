-- Lists of points: how often and where a number stands in one.
use Rattle.std.proofs.Common.{◌≡◌, ℕ, zero, suc, ◌+◌, ◌<◌, Bool, true, false, cond, eqb, ltb, List, [], ◌∷◌, map, length, get_or, sym, refl, ap, ◌∙◌, inl, inr, arith, ltb-true, eq-eqb, ne_eqb, eqb-true}
use borrow.Author.Tests.{eqb-false}
use Rattle.std.proofs.lemmas.List.Sums.{sum_by-cons}
use Rattle.std.proofs.lemmas.Bool.{and_parts, and_from, lt-ltb, cases_Bool}
use Rattle.symmetric.specs.Images.{occ, once, once_below, each_once, points, place}

pub point_at : (xs : List ℕ) (i : ℕ) → points xs ≡ true → i < length xs → get_or xs i 0 < 8
point_at [] i b h = absurd (let z : ⊥ = omega arith in z)
point_at (x ∷ xs) zero b h = ltb-true x 8 (and_parts (ltb x 8) (points xs) b).0
point_at (x ∷ xs) (suc i) b h = point_at xs i (and_parts (ltb x 8) (points xs) b).1 (omega arith)

pub points_from : (xs : List ℕ) → ((i : ℕ) → i < length xs → get_or xs i 0 < 8) → points xs ≡ true
points_from [] f = refl
points_from (x ∷ xs) f = and_from (ltb x 8) (points xs) (lt-ltb x 8 (f 0 (omega arith))) (points_from xs (λ i h. f (suc i) (omega arith)))

pub points_map : (f : ℕ → ℕ) (xs : List ℕ) → points xs ≡ true → ((x : ℕ) → x < 8 → f x < 8) → points (map f xs) ≡ true
points_map f [] b h = refl
points_map f (x ∷ xs) b h =
    let p = and_parts (ltb x 8) (points xs) b in
    and_from (ltb (f x) 8) (points (map f xs)) (lt-ltb (f x) 8 (h x (ltb-true x 8 p.0))) (points_map f xs p.1 h)

-- functions that agree on points
pub map_same : (f g : ℕ → ℕ) (xs : List ℕ) → points xs ≡ true → ((x : ℕ) → x < 8 → f x ≡ g x) → map f xs ≡ map g xs
map_same f g [] b h = refl
map_same f g (x ∷ xs) b h =
    let p = and_parts (ltb x 8) (points xs) b in
    ap (λ (y : ℕ). y ∷ map f xs) (h x (ltb-true x 8 p.0)) ∙ ap (λ (ys : List ℕ). g x ∷ ys) (map_same f g xs p.1 h)

occ_cons : (k x : ℕ) (xs : List ℕ) → occ k (x ∷ xs) ≡ cond (eqb x k) 1 0 + occ k xs
occ_cons k x xs = sum_by-cons (λ y. cond (eqb y k) 1 0) x xs

-- where only j goes to k, counting k among the images is counting j
pub occ_map : (f : ℕ → ℕ) (k j : ℕ) (xs : List ℕ) → points xs ≡ true → ((x : ℕ) → x < 8 → eqb (f x) k ≡ eqb x j) → occ k (map f xs) ≡ occ j xs
occ_map f k j [] b h = refl
occ_map f k j (x ∷ xs) b h =
    let p = and_parts (ltb x 8) (points xs) b in
    occ_cons k (f x) (map f xs) ∙ ap (λ (t : Bool). cond t 1 0 + occ k (map f xs)) (h x (ltb-true x 8 p.0))
    ∙ ap (λ (n : ℕ). cond (eqb x j) 1 0 + n) (occ_map f k j xs p.1 h) ∙ sym (occ_cons j x xs)

pub place_in : (k : ℕ) (xs : List ℕ) → 0 < occ k xs → place k xs < length xs
place_in k [] h = absurd (let z : ⊥ = omega arith in z)
place_in k (x ∷ xs) h =
    elim (cases_Bool (eqb x k)) [
      | inl t ↦ rw t (omega arith)
      | inr t ↦ let e : occ k (x ∷ xs) ≡ occ k xs = occ_cons k x xs ∙ rw t (omega arith) in
          let r = place_in k xs (omega arith) in rw t (omega arith)
    ]

pub place_read : (k : ℕ) (xs : List ℕ) → 0 < occ k xs → get_or xs (place k xs) 0 ≡ k
place_read k [] h = absurd (let z : ⊥ = omega arith in z)
place_read k (x ∷ xs) h =
    elim (cases_Bool (eqb x k)) [
      | inl t ↦ rw t (eqb-true x k t)
      | inr t ↦ let e : occ k (x ∷ xs) ≡ occ k xs = occ_cons k x xs ∙ rw t (omega arith) in
          rw t (place_read k xs (omega arith))
    ]

none_there : (k : ℕ) (xs : List ℕ) (i : ℕ) → occ k xs ≡ 0 → i < length xs → get_or xs i 0 ≡ k → ⊥
none_there k [] i o h r = omega arith
none_there k (x ∷ xs) zero o h r =
    let e = occ_cons k x xs in
    let t = eq-eqb x k r in
    let f : ◌≡◌ {A = ℕ} (cond (eqb x k) 1 0) 1 = rw t refl in
    omega arith
none_there k (x ∷ xs) (suc i) o h r = let e = occ_cons k x xs in none_there k xs i (omega arith) (omega arith) r

-- what stands there once stands there only
pub place_only : (k : ℕ) (xs : List ℕ) (i : ℕ) → occ k xs ≡ 1 → i < length xs → get_or xs i 0 ≡ k → place k xs ≡ i
place_only k [] i o h r = absurd (let z : ⊥ = omega arith in z)
place_only k (x ∷ xs) zero o h r = let t = eq-eqb x k r in rw t refl
place_only k (x ∷ xs) (suc i) o h r =
    let e = occ_cons k x xs in
    elim (cases_Bool (eqb x k)) [
      | inl t ↦ let f : ◌≡◌ {A = ℕ} (cond (eqb x k) 1 0) 1 = rw t refl in
          absurd (none_there k xs i (omega arith) (omega arith) r)
      | inr t ↦ let f : ◌≡◌ {A = ℕ} (cond (eqb x k) 1 0) 0 = rw t refl in
          rw t (ap suc (place_only k xs i (omega arith) (omega arith) r))
    ]

below_at : (n : ℕ) (xs : List ℕ) → once_below n xs ≡ true → (k : ℕ) → k < n → occ k xs ≡ 1
below_at zero xs e k h = absurd (let z : ⊥ = omega arith in z)
below_at (suc n) xs e k h =
    let p = and_parts (once n xs) (once_below n xs) e in
    elim (cases_Bool (eqb k n)) [
      | inl t ↦ ap (λ (j : ℕ). occ j xs) (eqb-true k n t) ∙ eqb-true (occ n xs) 1 p.0
      | inr t ↦ let ne : k ≡ n → ⊥ = eqb-false k n t in below_at n xs p.1 k (omega arith)
    ]

at_below : (n : ℕ) (xs : List ℕ) → ((k : ℕ) → k < n → occ k xs ≡ 1) → once_below n xs ≡ true
at_below zero xs f = refl
at_below (suc n) xs f =
    and_from (once n xs) (once_below n xs) (eq-eqb (occ n xs) 1 (f n (omega arith))) (at_below n xs (λ k h. f k (omega arith)))

pub once_at : (xs : List ℕ) → each_once xs ≡ true → (k : ℕ) → k < 8 → occ k xs ≡ 1
unfolding each_once
once_at xs e = below_at 8 xs e

pub once_from : (xs : List ℕ) → ((k : ℕ) → k < 8 → occ k xs ≡ 1) → each_once xs ≡ true
unfolding each_once
once_from xs f = at_below 8 xs f

pub not_once : (xs : List ℕ) (k : ℕ) → k < 8 → (occ k xs ≡ 1 → ⊥) → each_once xs ≡ false
not_once xs k h n = elim (cases_Bool (each_once xs)) [ inl e ↦ absurd (n (once_at xs e k h)) | inr e ↦ e ]

pub eqb_iff : (a b c d : ℕ) → (a ≡ b → c ≡ d) → (c ≡ d → a ≡ b) → eqb a b ≡ eqb c d
eqb_iff a b c d f g =
    elim (cases_Bool (eqb a b)) [
      | inl t ↦ t ∙ sym (eq-eqb c d (f (eqb-true a b t)))
      | inr t ↦ t ∙ sym (ne_eqb c d (λ e. eqb-false a b t (g e)))
    ]

-- Slots and their numbers, one after another.
use Rattle.std.proofs.Common.{◌≡◌, ℕ, zero, suc, ◌+◌, ◌<◌, true, ◌&&◌, List, [], ◌∷◌, ◌++◌, length, take, ℤ, Some, None, sym, refl, ap, ◌∙◌, subst, inl, inr, arith}
use lib.Signed.{le_z}
use Rattle.std.specs.List.{slice_get}
use Rattle.std.proofs.lemmas.List.{take_more}
use Rattle.std.proofs.lemmas.Bool.{and_parts, and_from, false≢true}
use Rattle.std.proofs.lemmas.Option.{none-some, same_Some, slice_get_cases, slice_get_within, get_or_from_slice_get}
use Rattle.label.specs.Form.{inside, fit, storable, least_stored, most_stored}
use Rattle.label.specs.declared.written.Slot.{Slot}
use Rattle.sheet.specs.Codes.{code, codes}

pub nth_some : {X : Type 0} (xs : List X) (i : ℕ) → i < length xs → (x : X) × (slice_get xs i ≡ Some x)
nth_some xs i h = elim (slice_get_cases xs i).1 [ inl w ↦ (w.0, w.2) | inr w ↦ absurd (let z : ⊥ = omega (arith, w.0) in z) ]

pub nth_within : {X : Type 0} (xs : List X) (i : ℕ) → i < length xs → slice_get xs i ≡ None → ⊥
nth_within xs i h e = let r = nth_some xs i h in none-some _ (sym e ∙ r.1)

pub take_nth : {X : Type 0} (xs : List X) (i : ℕ) (x : X) → slice_get xs i ≡ Some x → take (i + 1) xs ≡ take i xs ++ (x ∷ [])
take_nth xs i x e = take_more xs i x (slice_get_within xs i x e) ∙ ap (λ y. take i xs ++ (y ∷ [])) (get_or_from_slice_get xs i x x e)

pub storable_at : (ss : List Slot) (i : ℕ) (s : Slot) → storable ss ≡ true → slice_get ss i ≡ Some s → storable (s ∷ []) ≡ true
storable_at [] i s st e = absurd (none-some _ e)
storable_at (z ∷ ss) zero s st e =
    let t = le_z (least_stored z.storage) z.least && le_z z.most (most_stored z.storage) in
    subst (λ (q : Slot). storable (q ∷ []) ≡ true) (same_Some _ _ e) (and_from t true (and_parts t (storable ss) st).0 refl)
storable_at (z ∷ ss) (suc i) s st e =
    let t = le_z (least_stored z.storage) z.least && le_z z.most (most_stored z.storage) in
    storable_at ss i s (and_parts t (storable ss) st).1 e

pub fit_push : (ss : List Slot) (xs : List ℤ) (s : Slot) (x : ℤ) → fit ss xs ≡ true → inside s x ≡ true → fit (ss ++ (s ∷ [])) (xs ++ (x ∷ [])) ≡ true
fit_push [] [] s x f i = and_from (inside s x) true i refl
fit_push [] (y ∷ xs) s x f i = absurd (false≢true f)
fit_push (t ∷ ss) [] s x f i = absurd (false≢true f)
fit_push (t ∷ ss) (y ∷ xs) s x f i =
    let p = and_parts (inside t y) (fit ss xs) f in
    and_from (inside t y) (fit (ss ++ (s ∷ [])) (xs ++ (x ∷ []))) p.0 (fit_push ss xs s x p.1 i)

pub codes_push : (ss : List Slot) (xs : List ℤ) (s : Slot) (x : ℤ) → fit ss xs ≡ true → codes (ss ++ (s ∷ [])) (xs ++ (x ∷ [])) ≡ codes ss xs ++ (code s.storage x ∷ [])
codes_push [] [] s x f = refl
codes_push [] (y ∷ xs) s x f = absurd (false≢true f)
codes_push (t ∷ ss) [] s x f = absurd (false≢true f)
codes_push (t ∷ ss) (y ∷ xs) s x f = ap (λ (q : List ℕ). code t.storage y ∷ q) (codes_push ss xs s x (and_parts (inside t y) (fit ss xs) f).1)

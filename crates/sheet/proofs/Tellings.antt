-- The numbers of a written label as they are stored, by their places.
use Rattle.std.proofs.Common.{◌≡◌, ℕ, zero, suc, List, [], ◌∷◌, get_or, ℤ, Some, None, Ok, Err, Option, is_some, is_ok, unwrap_or, sym, refl, ap, ◌∙◌, arith}
use Rattle.std.specs.List.{slice_get}
use Rattle.label.specs.Clauses.{written_at}
use Rattle.label.specs.declared.refusals.NoWrittenForm.{NoWrittenForm}
use Rattle.label.specs.declared.written.Slot.{Slot}
use Rattle.sheet.specs.Codes.{code, codes}
use Rattle.std.proofs.lemmas.Option.{none-some, same_Some}

codes_at : (ss : List Slot) (xs : List ℤ) (i : ℕ) (s : Slot) (x : ℤ) → slice_get ss i ≡ Some s → slice_get xs i ≡ Some x → get_or (codes ss xs) i 0 ≡ code s.storage x
codes_at [] xs i s x e f = absurd (none-some _ e)
codes_at (t ∷ ss) [] i s x e f = absurd (none-some _ f)
codes_at (t ∷ ss) (y ∷ xs) zero s x e f = ap (λ (u : Slot). code u.storage y) (same_Some _ _ e) ∙ ap (code s.storage) (same_Some _ _ f)
codes_at (t ∷ ss) (y ∷ xs) (suc i) s x e f = codes_at ss xs i s x e f

codes_past_slots : (ss : List Slot) (xs : List ℤ) (i : ℕ) → slice_get ss i ≡ None → get_or (codes ss xs) i 0 ≡ 0
codes_past_slots [] xs i e = refl
codes_past_slots (s ∷ ss) [] i e = refl
codes_past_slots (s ∷ ss) (x ∷ xs) zero e = absurd (none-some _ (sym e))
codes_past_slots (s ∷ ss) (x ∷ xs) (suc i) e = codes_past_slots ss xs i e

codes_past_numbers : (ss : List Slot) (xs : List ℤ) (i : ℕ) → slice_get xs i ≡ None → get_or (codes ss xs) i 0 ≡ 0
codes_past_numbers [] xs i e = refl
codes_past_numbers (s ∷ ss) [] i e = refl
codes_past_numbers (s ∷ ss) (x ∷ xs) zero e = absurd (none-some _ (sym e))
codes_past_numbers (s ∷ ss) (x ∷ xs) (suc i) e = codes_past_numbers ss xs i e

codes_none : (ss : List Slot) (i : ℕ) → get_or (codes ss []) i 0 ≡ 0
codes_none [] i = refl
codes_none (s ∷ ss) i = refl

-- the number at a place is there, or no slot is, or no number is, or the label is not written
pub told_at : (ss : List Slot) (o : Option (List ℤ)) (i : ℕ) (s : Slot) (x : ℤ) → slice_get ss i ≡ Some s → written_at o i ≡ Ok (Some x) → get_or (codes ss (unwrap_or o [])) i 0 ≡ code s.storage x
told_at ss None i s x e f = absurd (let z : ◌≡◌ {A = ℕ} 0 1 = cc in let w : ⊥ = omega arith in w)
told_at ss (Some xs) i s x e f = codes_at ss xs i s x e (let z : slice_get xs i ≡ Some x = cc in z)

pub past_slots : (ss : List Slot) (o : Option (List ℤ)) (i : ℕ) → slice_get ss i ≡ None → get_or (codes ss (unwrap_or o [])) i 0 ≡ 0
past_slots ss o i e = codes_past_slots ss (unwrap_or o []) i e

pub past_numbers : (ss : List Slot) (o : Option (List ℤ)) (i : ℕ) → written_at o i ≡ Ok None → get_or (codes ss (unwrap_or o [])) i 0 ≡ 0
past_numbers ss None i e = codes_none ss i
past_numbers ss (Some xs) i e = codes_past_numbers ss xs i (let z : slice_get xs i ≡ None = cc in z)

pub untold : (ss : List Slot) (o : Option (List ℤ)) (i : ℕ) (w : NoWrittenForm) → written_at o i ≡ Err w → get_or (codes ss (unwrap_or o [])) i 0 ≡ 0
untold ss None i w e = codes_none ss i
untold ss (Some xs) i w e = absurd (let z : ◌≡◌ {A = ℕ} 0 1 = cc in let v : ⊥ = omega arith in v)

-- the answer at any place says whether the label is written
pub written_told : (o : Option (List ℤ)) (i : ℕ) → is_ok (written_at o i) ≡ is_some o
written_told None i = refl
written_told (Some xs) i = refl

-- Slots in two runs, one after the other: what fits them, and what a sheet can store of them. Assumes nothing.
use Rattle.std.specs.Prelude.{◌≡◌, suc, Bool, true, false, ◌&&◌, List, [], ◌∷◌, ◌++◌, length, take, drop, ℤ, Some, int_le, refl}
use Rattle.std.proofs.Common.{sym, ap, ◌∙◌}
use Rattle.std.proofs.Math.Bool.{and_assoc}
use Rattle.std.proofs.lemmas.Bool.{and_parts, both_ways}
use Rattle.label.specs.declared.written.Slot.{Slot}
use Rattle.label.specs.Form.{Form, inside, fit, storable, least_stored, most_stored}

-- as many numbers fit as there are slots
pub fit_length : (ss : List Slot) (xs : List ℤ) → fit ss xs ≡ true → length xs ≡ length ss
fit_length [] [] e = refl
fit_length [] (x ∷ xs) e = absurd (both_ways false refl e)
fit_length (s ∷ ss) [] e = absurd (both_ways false refl e)
fit_length (s ∷ ss) (x ∷ xs) e = ap suc (fit_length ss xs (and_parts (inside s x) (fit ss xs) e).1)

-- a label that is written has as many numbers as its kind
pub told_length : {M : Type 0} (F : Form M) (m : M) (xs : List ℤ) → F.tells m ≡ Some xs → length xs ≡ length F.slots
told_length F m xs e = fit_length F.slots xs (and_parts F.able (fit F.slots xs) (F.back m xs e).0).1

-- numbers fit both runs just when their front fits the first and the rest the second
pub fit_append : (ss ts : List Slot) (xs : List ℤ) → fit (ss ++ ts) xs ≡ (fit ss (take (length ss) xs) && fit ts (drop (length ss) xs))
fit_append [] ts xs = refl
fit_append (s ∷ ss) ts [] = refl
fit_append (s ∷ ss) ts (x ∷ xs) =
    ap (λ (b : Bool). inside s x && b) (fit_append ss ts xs) ∙ sym (and_assoc (inside s x) (fit ss (take (length ss) xs)) (fit ts (drop (length ss) xs)))

pub storable_append : (ss ts : List Slot) → storable (ss ++ ts) ≡ (storable ss && storable ts)
storable_append [] ts = refl
storable_append (s ∷ ss) ts =
    let here : Bool = int_le (least_stored s.storage) s.least && int_le s.most (most_stored s.storage) in
    ap (λ (b : Bool). here && b) (storable_append ss ts) ∙ sym (and_assoc here (storable ss) (storable ts))

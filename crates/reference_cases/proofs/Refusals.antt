-- The reference refusals: of a number past its range, of a number too long, and of a loop whose label is its own inverse.
use Rattle.std.proofs.Common.{◌≡◌, ℕ, zero, suc, ◌+◌, ◌-◌, ◌<◌, ◌≤◌, true, leb, ◌≢◌, List, ◌∷◌, ◌++◌, length, take, ℤ, pos, negsuc, Some, Err, Result, refl, ap, subst, inl, inr, arith, lit<}
use Rattle.std.specs.List.{slice_get}
use Rattle.std.proofs.lemmas.Bool.{leb-true, and_parts}
use Rattle.label.specs.Form.{Form, fit, inside}
use Rattle.lattice.specs.Triples.{coord_slot, triple_slots, triple_form, triple_made}
use Rattle.symmetric.proofs.Laws.{perm_same}
use Rattle.permutation.specs.Permutations.{perm_group, one, inv}
use Rattle.net.specs.Verdict.{First, here, later}
use Rattle.net.specs.Rules.{LineBreaks, line_rules}
use Rattle.net.specs.declared.refusals.NetRefusal.TheVariants as refusal
use Rattle.sheet.specs.Stored.{stored, after_two}
use Rattle.sheet.specs.Codes.{code}
use Rattle.sheet.specs.Faults.{at_place, Unreadable, ends, malformed, NoLabel, outside}
use Rattle.sheet.specs.declared.faults.Placed.{Placed}
use Rattle.sheet.specs.declared.faults.BytesFault.{BytesFault}
use Rattle.sheet.specs.declared.faults.BytesFault.TheVariants as bytes
use Rattle.sheet.specs.declared.faults.SheetFault.{SheetFault}
use Rattle.sheet.proofs.LabelReader.{no_label, label_one}
use Rattle.reference_cases.specs.Involution.{swap, lone_node, swap_loop}
use Rattle.reference_cases.specs.ReferenceLaws.{outside_at, numbers_before, LabelRefused}

-- a fault of bytes that the sheet ends with is their only one
only_fault : {M : Type 0} (F : Form M) (place : ℕ) (all : List ℕ) (f g : SheetFault) → NoLabel F place (place + length all) all f → NoLabel F place (place + length all) all g → g ≡ f
only_fault {M} F place all f g a b =
    let end = place + length all in
    let at : place ≡ end - length all = omega arith in
    let read : (e : SheetFault) → NoLabel F place end all e → _ = λ e n. no_label F end all e (omega arith) (subst (λ (p : ℕ). NoLabel F p end all e) at n) in
    let same : ◌≡◌ {A = Result (M × List ℕ) SheetFault} (Err g) (Err f) = label_one F end all (Err g) (Err f) (read g b) (read f a) in
    cc

-- a translation has three numbers, all of one range
slot_at : (k : ℕ) → k < 3 → slice_get triple_slots k ≡ Some coord_slot
slot_at zero h = refl
slot_at (suc zero) h = refl
slot_at (suc (suc zero)) h = refl
slot_at (suc (suc (suc k))) h = absurd (omega arith)

-- no number of the range is stored as 1001
none_stored : (x : ℤ) → inside coord_slot x ≡ true → code coord_slot.storage x ≢ 1001
none_stored (pos n) i e = omega arith
none_stored (negsuc n) i e = let h = leb-true n 499 (and_parts (leb n 499) true i).0 in omega arith

pub past_range : (place k : ℕ) (xs : List ℤ) (rest : List ℕ) → k < 3 → fit (take k triple_slots) xs ≡ true →
    LabelRefused (triple_form triple_made) place (numbers_before k xs ++ (233 ∷ 7 ∷ rest)) (outside_at (place + length (numbers_before k xs)))
unfolding stored
past_range place k xs rest h fits =
    let F = triple_form triple_made in
    let all = numbers_before k xs ++ (233 ∷ 7 ∷ rest) in
    let f = outside_at (place + length (numbers_before k xs)) in
    let told : (end : ℕ) → NoLabel F place end all f = λ end. outside k 1001 coord_slot xs rest fits (slot_at k h) (lit< tt) none_stored refl in
    record { refused = told; only = λ g n. only_fault F place all f g (told (place + length all)) n }

pub long_zero_only : (place end : ℕ) (rest : List ℕ) (f : Placed BytesFault) → Unreadable place end (128 ∷ 0 ∷ rest) f → f ≡ at_place bytes.Malformed place
long_zero_only place end _ _ (ends (after_two a b)) = absurd (omega arith)
long_zero_only place end rest _ (malformed m) = refl

-- the swap is its own inverse, and not the identity
swap_inverse : swap ≡ inv swap
swap_inverse = perm_same swap (inv swap) refl

swap_moves : swap ≡ one → ⊥
swap_moves e = let z = ap (λ p. p.0) e in let k : ◌≡◌ {A = ℕ} 0 1 = cc in omega arith

pub involution_refused : (room : ℕ) → 1 ≤ room → First (LineBreaks perm_group lone_node room room swap_loop) refusal.InvolutionLoop line_rules
involution_refused room h =
    later (λ other. other refl) (
    later (λ off. elim off [ inl a ↦ omega arith | inr b ↦ omega arith ]) (
    later (λ full. elim full [ inl a ↦ omega arith | inr b ↦ omega arith ]) (
    later (λ same. swap_moves same.1) (
    here (refl, swap_inverse)))))

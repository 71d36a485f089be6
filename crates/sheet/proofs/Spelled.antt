-- A label's numbers as they are read, one after another.
use Rattle.std.proofs.Common.{◌≡◌, ℕ, ◌+◌, ◌<◌, ◌≤◌, true, false, List, [], ◌∷◌, ◌++◌, length, take, drop, set, ℤ, Some, Ok, Err, sym, ap, ◌∙◌, subst, inl, inr, arith}
use Rattle.std.specs.List.{slice_get}
use Rattle.std.proofs.lemmas.List.{take_more_set, take_all}
use Rattle.std.proofs.lemmas.Bool.{and_cases, both_ways}
use Rattle.label.specs.Form.{Form, fit, in_range}
use Rattle.label.specs.Clauses.{ReadClause}
use Rattle.label.specs.declared.written.Slot.{Slot}
use Rattle.label.specs.declared.refusals.LabelFault.{LabelFault}
use Rattle.label.specs.declared.refusals.LabelFault.TheVariants.{OutOfRange}
use Rattle.sheet.specs.Stored.{text}
use Rattle.sheet.specs.Codes.{code, codes}
use Rattle.sheet.specs.Faults as faults
use Rattle.sheet.specs.Faults.{at_place, Unreadable, NoLabel, ALabel}
use Rattle.sheet.specs.Reading.{NumbersAt, SlotNumberAt, NoSlotNumber, unread, outside, LabelAt}
use Rattle.sheet.specs.declared.faults.SheetFault.{SheetFault}
use Rattle.sheet.specs.declared.faults.SheetFault.TheVariants as sheet
use Rattle.sheet.proofs.Places.{numbers_more}
use Rattle.sheet.proofs.Slots.{take_nth, fit_push, codes_push}
use Rattle.sheet.proofs.Readings.{read_ok, read_err}

module _ {M : Type 0} (F : Form M) (bytes : List ℕ) (place : ℕ) where
  -- the first i numbers of the label stand in the bytes, each in its range
  pub record Spelled (i : ℕ) (xs : List ℤ) (next : ℕ) : Type 0 where
    pub fits : fit (take i F.slots) (take i xs) ≡ true
    pub at : NumbersAt bytes place (codes (take i F.slots) (take i xs)) next

  -- one number more
  pub spelled_more : (i : ℕ) (xs : List ℤ) (next : ℕ) (s : Slot) (x : ℤ) (q : ℕ) → i < length xs → slice_get F.slots i ≡ Some s → Spelled i xs next → SlotNumberAt bytes next s x q → Spelled (i + 1) (set xs i x) q
  spelled_more i xs next s x q h e before one =
      let slots : take (i + 1) F.slots ≡ take i F.slots ++ (s ∷ []) = take_nth F.slots i s e in
      let more : take (i + 1) (set xs i x) ≡ take i xs ++ (x ∷ []) = take_more_set xs i x h in
      let told : codes (take (i + 1) F.slots) (take (i + 1) (set xs i x)) ≡ codes (take i F.slots) (take i xs) ++ (code s.storage x ∷ []) =
      ap (λ (ss : List Slot). codes ss (take (i + 1) (set xs i x))) slots ∙ ap (codes (take i F.slots ++ (s ∷ []))) more ∙ codes_push (take i F.slots) (take i xs) s x before.fits in
      record {
        fits = ap (λ (ss : List Slot). fit ss (take (i + 1) (set xs i x))) slots ∙ ap (fit (take i F.slots ++ (s ∷ []))) more ∙ fit_push (take i F.slots) (take i xs) s x before.fits one.ranges;
        at = subst (λ (ns : List ℕ). NumbersAt bytes place ns q) (sym told) (numbers_more bytes place (codes (take i F.slots) (take i xs)) next (code s.storage x) q before.at one.number);
      }

  -- the next number is at fault
  pub spelled_fault : (i : ℕ) (xs : List ℤ) (next : ℕ) (s : Slot) {f : SheetFault} → i < length F.slots → slice_get F.slots i ≡ Some s → Spelled i xs next → NoSlotNumber bytes next s f → NoLabel F place (length bytes) (drop place bytes) f
  spelled_fault i xs next s h e before (unread f u) =
      faults.unread i (take i xs) (drop next bytes) f h before.fits before.at.bytes_are (subst (λ (p : ℕ). Unreadable p (length bytes) (drop next bytes) f) before.at.next_is u)
  spelled_fault i xs next s h e before (outside o) =
      let ns = codes (take i F.slots) (take i xs) in
      subst (λ (p : ℕ). NoLabel F place (length bytes) (drop place bytes) (sheet.Label (at_place OutOfRange p))) (sym before.at.next_is)
      (faults.outside i o.value s (take i xs) (drop o.next bytes) before.fits e o.number.small o.none (before.at.bytes_are ∙ ap (λ (r : List ℕ). text ns ++ r) o.number.bytes_are))

  -- all numbers of the label
  pub record SpelledOut (xs : List ℤ) (next : ℕ) : Type 0 where
    pub fits : fit F.slots xs ≡ true
    pub at : NumbersAt bytes place (codes F.slots xs) next

  pub spelled_all : (i : ℕ) (xs : List ℤ) (next : ℕ) → length xs ≡ length F.slots → length xs ≤ i → Spelled i xs next → SpelledOut xs next
  spelled_all i xs next long h before =
      let all : take i F.slots ≡ F.slots = take_all i F.slots (omega arith) in
      let same : take i xs ≡ xs = take_all i xs h in
      record {
        fits = ap (λ (ss : List Slot). fit ss xs) (sym all) ∙ ap (fit (take i F.slots)) (sym same) ∙ before.fits;
        at = subst (λ (ss : List Slot). NumbersAt bytes place (codes ss xs) next) all (subst (λ (ys : List ℤ). NumbersAt bytes place (codes (take i F.slots) ys) next) same before.at);
      }

  module _ {L : Type 0} (stands : L → M) (xs : List ℤ) (next : ℕ) (out : SpelledOut xs next) where
    -- they stand for a label
    pub label_made : (l : L) → ReadClause F stands xs (Ok l) → LabelAt F stands bytes place l next
    label_made l r =
        let p = read_ok stands (in_range F xs) (F.means xs) l r in
        record {
          label = record { numbers = xs; ranges = p.0; label = p.1; bytes = out.at.bytes_are };
          next_is = out.at.next_is;
          within = out.at.within;
        }

    -- or for none
    pub label_refused : (f : LabelFault) → ReadClause F stands xs (Err f) → NoLabel F place (length bytes) (drop place bytes) (sheet.Label (at_place f place))
    label_refused f r =
        let Goal : LabelFault → Type 0 = λ g. NoLabel F place (length bytes) (drop place bytes) (sheet.Label (at_place g place)) in
        elim (read_err stands (in_range F xs) (F.means xs) f r) [
          | inl p ↦
              let able : F.able ≡ false = elim (and_cases F.able (fit F.slots xs) p.0) [ inl a ↦ a | inr b ↦ absurd (both_ways (fit F.slots xs) b out.fits) ] in
              subst Goal (sym p.1) (faults.unwritable xs (drop next bytes) out.fits able out.at.bytes_are)
          | inr p ↦ subst Goal (sym p.2) (faults.meaningless xs (drop next bytes) p.0 p.1 out.at.bytes_are)
        ]

-- Reading a label: its numbers, and then what they stand for.
use Rattle.std.proofs.Common.{◌≡◌, ℕ, ◌+◌, ◌-◌, ◌≤◌, Bool, true, false, List, [], ◌∷◌, ◌++◌, length, take, drop, ℤ, Some, None, Ok, Err, Option, Result, sym, refl, ap, ◌∙◌, subst, append-nil}
use Rattle.std.specs.List.{slice_get}
use Rattle.std.proofs.lemmas.List.{take-append-drop, drop_more}
use Rattle.std.proofs.lemmas.Option.{slice_get_within, get_or_from_slice_get}
use Rattle.std.proofs.lemmas.Bool.{and_parts}
use Rattle.label.specs.Form.{Form, fit, storable}
use Rattle.label.specs.Fits.{storable_append}
use Rattle.label.specs.declared.written.Slot.{Slot}
use Rattle.label.specs.declared.refusals.LabelFault.TheVariants as label
use Rattle.sheet.specs.Stored.{stored, text}
use Rattle.sheet.specs.Codes.{codes}
use Rattle.sheet.specs.Faults.{at_place, NoLabel, unread, outside, unwritable, meaningless, ALabel}
use Rattle.sheet.specs.declared.faults.SheetFault.{SheetFault}
use Rattle.sheet.specs.declared.faults.SheetFault.TheVariants as sheet
use Rattle.sheet.proofs.Slots.{nth_some}
use Rattle.sheet.proofs.Readers.{One, stops, goes}
use Rattle.sheet.proofs.NumberReader.{some, place_after, none_after}
use Rattle.sheet.proofs.SlotReader.{ASlot, untold, Slots, slots_one, slots_read}

drop_nth : {X : Type 0} (xs : List X) (i : ℕ) (x : X) → slice_get xs i ≡ Some x → drop i xs ≡ x ∷ drop (i + 1) xs
drop_nth xs i x e = drop_more xs i x (slice_get_within xs i x e) ∙ ap (λ y. y ∷ drop (i + 1) xs) (get_or_from_slice_get xs i x x e)

module _ {M : Type 0} (F : Form M) (end : ℕ) where
  -- what numbers in their ranges come to, which began at a place
  abbrev meant : Bool → Option M → ℕ → List ℕ → Result (M × List ℕ) SheetFault
  meant false o place rest = Err (sheet.Label (at_place label.OutOfRange place))
  meant true None place rest = Err (sheet.Label (at_place label.NoPermutation place))
  meant true (Some m) place rest = Ok (m, rest)

  abbrev Meant : List ℕ → List ℤ → List ℕ → Result (M × List ℕ) SheetFault → Type 0
  Meant bs xs rest r = r ≡ meant F.able (F.means xs) (end - length bs) rest

  abbrev pub Labelled : List ℕ → Result (M × List ℕ) SheetFault → Type 0
  Labelled bs = Slots end F.slots (Meant bs) bs

  pub label_one : (bs : List ℕ) → One (Labelled bs)
  label_one bs = slots_one end F.slots (Meant bs) F.stored (λ xs rest r s p q. p ∙ sym q) bs

  -- every number is in its range
  whole : (xs : List ℤ) (bs rest : List ℕ) (r : Result (M × List ℕ) SheetFault) → fit F.slots xs ≡ true → bs ≡ text (codes F.slots xs) ++ rest → Meant bs xs rest r → Labelled bs r
  whole xs bs rest r f e m =
      subst (λ (ss : List Slot). Slots end ss (Meant bs) bs r) (append-nil F.slots)
      (slots_read end F.slots [] xs (Meant bs) bs rest r F.stored f e (subst (λ (ys : List ℤ). Meant bs ys rest r) (sym (append-nil xs)) m))

  -- k numbers are in their ranges, and the next is at fault
  part : (k : ℕ) (s : Slot) (xs : List ℤ) (bs rest : List ℕ) (f : SheetFault) → slice_get F.slots k ≡ Some s → fit (take k F.slots) xs ≡ true → bs ≡ text (codes (take k F.slots) xs) ++ rest → ASlot end s rest (Err f) → Labelled bs (Err f)
  part k s xs bs rest f at fits e slot =
      let first = take k F.slots in
      let later = drop k F.slots in
      let st : storable (first ++ later) ≡ true = subst (λ (ss : List Slot). storable ss ≡ true) (sym (take-append-drop k F.slots)) F.stored in
      let split : later ≡ s ∷ drop (k + 1) F.slots = drop_nth F.slots k s at in
      subst (λ (ss : List Slot). Slots end ss (Meant bs) bs (Err f)) (take-append-drop k F.slots)
      (slots_read end first later xs (Meant bs) bs rest (Err f) (and_parts (storable first) (storable later) (sym (storable_append first later) ∙ st)).0 fits e
      (subst (λ (ts : List Slot). Slots end ts (λ ys. Meant bs (xs ++ ys)) rest (Err f)) (sym split) (stops f slot)))

  pub no_label : (bs : List ℕ) (f : SheetFault) → length bs ≤ end → NoLabel F (end - length bs) end bs f → Labelled bs (Err f)
  no_label bs _ h (unread k xs rest f lt fits e u) =
      let s = nth_some F.slots k lt in
      part k s.0 xs bs rest (sheet.Bytes f) s.1 fits e (stops (sheet.Bytes f) (none_after end bs (text (codes (take k F.slots) xs)) rest f h e u))
  no_label bs _ h (outside k n s xs rest fits at small none e) =
      let here = stored n ++ rest in
      let place = place_after end bs (text (codes (take k F.slots) xs)) here h e in
      subst (λ (p : ℕ). Labelled bs (Err (sheet.Label (at_place label.OutOfRange p)))) (sym place)
      (part k s xs bs here (sheet.Label (at_place label.OutOfRange (end - length here))) at fits e (goes n rest (some n rest small refl) (untold none)))
  no_label bs _ h (unwritable xs rest fits able e) = whole xs bs rest _ fits e (ap (λ b. meant b (F.means xs) (end - length bs) rest) (sym able))
  no_label bs _ h (meaningless xs rest ranges none e) =
      let p = and_parts F.able (fit F.slots xs) ranges in
      whole xs bs rest _ p.1 e (ap (λ o. meant true o (end - length bs) rest) (sym none) ∙ ap (λ b. meant b (F.means xs) (end - length bs) rest) (sym p.0))

  pub a_label : (bs : List ℕ) (m : M) (rest : List ℕ) → ALabel F bs m rest → Labelled bs (Ok (m, rest))
  a_label bs m rest a =
      let p = and_parts F.able (fit F.slots a.numbers) a.ranges in
      whole a.numbers bs rest (Ok (m, rest)) p.1 a.bytes (ap (λ o. meant true o (end - length bs) rest) (sym a.label) ∙ ap (λ b. meant b (F.means a.numbers) (end - length bs) rest) (sym p.0))

-- Reading the numbers of a label, slot by slot.
use Rattle.std.proofs.Common.{◌≡◌, ℕ, ◌-◌, true, ◌&&◌, ◌≢◌, List, [], ◌∷◌, ◌++◌, length, ℤ, pos, negsuc, ◌≤ℤ◌, Ok, Err, Result, sym, refl, ap, ◌∙◌, subst, append_assoc, arith}
use lib.Signed.{le_z}
use Rattle.std.proofs.lemmas.Int.{ints}
use Rattle.std.proofs.lemmas.Bool.{and_parts, false≢true}
use Rattle.label.specs.Form.{inside, fit, storable, least_stored, most_stored}
use Rattle.label.specs.declared.written.Slot.{Slot}
use Rattle.label.specs.declared.written.Storage.{Storage}
use Rattle.label.specs.declared.written.Storage.TheVariants.{Signed, Image}
use Rattle.label.specs.declared.refusals.LabelFault.TheVariants as label
use Rattle.sheet.specs.Stored.{Small, stored, text}
use Rattle.sheet.specs.Codes.{code, codes}
use Rattle.sheet.specs.Faults.{at_place}
use Rattle.sheet.specs.declared.faults.SheetFault.{SheetFault}
use Rattle.sheet.specs.declared.faults.SheetFault.TheVariants as sheet
use Rattle.sheet.proofs.Coded.{code_one, inside_stored, inside_most}
use Rattle.sheet.proofs.Slots.{storable_at}
use Rattle.sheet.proofs.Readers.{One, Then, goes, then_one}
use Rattle.sheet.proofs.NumberReader.{ANumber, some, number_one}

storable_rest : (s : Slot) (ss : List Slot) → storable (s ∷ ss) ≡ true → storable ss ≡ true
storable_rest s ss st = (and_parts (le_z (least_stored s.storage) s.least && le_z s.most (most_stored s.storage)) (storable ss) st).1

-- what is in the range of a slot that can be stored takes three bytes at most
code_below : (t : Storage) (x : ℤ) → least_stored t ≤ℤ x → x ≤ℤ most_stored t → Small (code t x)
code_below Signed (pos a) h k = omega (arith, ints)
code_below Signed (negsuc a) h k = omega (arith, ints)
code_below Image (pos a) h k = omega (arith, ints)
code_below Image (negsuc a) h k = absurd (let z : ⊥ = omega (arith, ints) in z)

most_within : (s : Slot) (x : ℤ) → storable (s ∷ []) ≡ true → inside s x ≡ true → x ≤ℤ most_stored s.storage
most_within s x st i =
    let low = le_z (least_stored s.storage) s.least in
    let high = le_z s.most (most_stored s.storage) in
    let h : le_z s.most (most_stored s.storage) ≡ true = (and_parts low high (and_parts (low && high) true st).0).1 in
    let k = inside_most s x i in
    grind (arith, ints)

pub code_small : (s : Slot) (x : ℤ) → storable (s ∷ []) ≡ true → inside s x ≡ true → Small (code s.storage x)
code_small s x st i = code_below s.storage x (inside_stored s x st i) (most_within s x st i)

-- the number of the slot's range that is stored so, if one is
pub data Coded (s : Slot) (place n : ℕ) (rest : List ℕ) : Result (ℤ × List ℕ) SheetFault → Type 0 where
  told : (x : ℤ) → inside s x ≡ true → code s.storage x ≡ n → Coded s place n rest (Ok (x, rest))
  untold : ((x : ℤ) → inside s x ≡ true → code s.storage x ≢ n) → Coded s place n rest (Err (sheet.Label (at_place label.OutOfRange place)))

coded_one : (s : Slot) (place n : ℕ) (rest : List ℕ) → storable (s ∷ []) ≡ true → One (Coded s place n rest)
coded_one s place n rest st _ _ (told x i e) (told y j f) =
    ap (λ (z : ℤ). let r : Result (ℤ × List ℕ) SheetFault = Ok (z, rest) in r) (code_one s.storage x y (inside_stored s x st i) (inside_stored s y st j) (e ∙ sym f))
coded_one s place n rest st _ _ (told x i e) (untold no_such) = absurd (no_such x i e)
coded_one s place n rest st _ _ (untold no_such) (told y j f) = absurd (no_such y j f)
coded_one s place n rest st _ _ (untold a) (untold b) = refl

module _ (end : ℕ) where
  abbrev pub ASlot : Slot → List ℕ → Result (ℤ × List ℕ) SheetFault → Type 0
  ASlot s bs = Then (ANumber end) (Coded s (end - length bs)) bs

  -- a number for each slot, and then what follows
  abbrev pub Slots : {Y : Type 0} → List Slot → (List ℤ → List ℕ → Result Y SheetFault → Type 0) → List ℕ → Result Y SheetFault → Type 0
  Slots [] Q bs = Q [] bs
  Slots (s ∷ ss) Q bs = Then (ASlot s) (λ x. Slots ss (λ xs. Q (x ∷ xs))) bs

  pub slots_one : {Y : Type 0} (ss : List Slot) (Q : List ℤ → List ℕ → Result Y SheetFault → Type 0) → storable ss ≡ true → ((xs : List ℤ) (rest : List ℕ) → One (Q xs rest)) → (bs : List ℕ) → One (Slots ss Q bs)
  slots_one [] Q st q bs = q [] bs
  slots_one (s ∷ ss) Q st q bs =
      then_one (ASlot s) (λ x. Slots ss (λ xs. Q (x ∷ xs))) bs
      (then_one (ANumber end) (Coded s (end - length bs)) bs (number_one end bs) (λ n rest. coded_one s (end - length bs) n rest (storable_at (s ∷ ss) 0 s st refl)))
      (λ x. slots_one ss (λ xs. Q (x ∷ xs)) (storable_rest s ss st) (λ xs. q (x ∷ xs)))

  -- numbers in their ranges are read, and the slots after them are to be read from the rest
  pub slots_read : {Y : Type 0} (ss ts : List Slot) (xs : List ℤ) (Q : List ℤ → List ℕ → Result Y SheetFault → Type 0) (bs rest : List ℕ) (r : Result Y SheetFault) → storable ss ≡ true → fit ss xs ≡ true → bs ≡ text (codes ss xs) ++ rest →
      Slots ts (λ ys. Q (xs ++ ys)) rest r → Slots (ss ++ ts) Q bs r
  slots_read [] ts [] Q bs rest r st f e after = subst (λ (b : List ℕ). Slots ts Q b r) (sym e) after
  slots_read [] ts (x ∷ xs) Q bs rest r st f e after = absurd (false≢true f)
  slots_read (s ∷ ss) ts [] Q bs rest r st f e after = absurd (false≢true f)
  slots_read (s ∷ ss) ts (x ∷ xs) Q bs rest r st f e after =
      let n = code s.storage x in
      let left = text (codes ss xs) ++ rest in
      let p = and_parts (inside s x) (fit ss xs) f in
      let number : ANumber end bs (Ok (n, left)) = some n left (code_small s x (storable_at (s ∷ ss) 0 s st refl) p.0) (e ∙ append_assoc (stored n) (text (codes ss xs)) rest) in
      goes x left (goes n left number (told x p.0 refl)) (slots_read ss ts xs (λ ys. Q (x ∷ ys)) left rest r (storable_rest s ss st) p.1 refl after)

-- Reading a line: its tail, its head and its label.
use Rattle.std.proofs.Common.{◌≡◌, ℕ, ◌-◌, ◌≤◌, List, [], ◌∷◌, ◌++◌, length, Ok, Err, Result, sym, refl, ◌∙◌, subst}
use Rattle.label.specs.Form.{Form}
use Rattle.mesh.specs.Net.{Line}
use Rattle.sheet.specs.Stored.{text}
use Rattle.sheet.specs.Faults.{NoLabel, NoLine, no_tail, no_head, no_label, ALine}
use Rattle.sheet.specs.declared.faults.SheetFault.{SheetFault}
use Rattle.sheet.specs.declared.faults.SheetFault.TheVariants as sheet
use Rattle.sheet.proofs.Readers.{One, Then, stops, goes, then_one}
use Rattle.sheet.proofs.NumberReader.{ANumber, none, number_one, first_number, place_after, rest_within, none_after}
use Rattle.sheet.proofs.LabelReader as labels

module _ {M : Type 0} (F : Form M) (end : ℕ) where
  abbrev WithLabel : (tail head : ℕ) → M → List ℕ → Result (Line M × List ℕ) SheetFault → Type 0
  WithLabel t h m rest r = r ≡ Ok (record { tail = t; head = h; label = m }, rest)

  abbrev WithHead : (tail head : ℕ) → List ℕ → Result (Line M × List ℕ) SheetFault → Type 0
  WithHead t h = Then (labels.Labelled F end) (WithLabel t h)

  abbrev WithTail : ℕ → List ℕ → Result (Line M × List ℕ) SheetFault → Type 0
  WithTail t = Then (ANumber end) (WithHead t)

  abbrev pub Lined : List ℕ → Result (Line M × List ℕ) SheetFault → Type 0
  Lined = Then (ANumber end) WithTail

  pub line_one : (bs : List ℕ) → One (Lined bs)
  line_one bs =
      then_one (ANumber end) WithTail bs (number_one end bs) (λ t after_IsTail.
      then_one (ANumber end) (WithHead t) after_IsTail (number_one end after_IsTail) (λ h after_head.
      then_one (labels.Labelled F end) (WithLabel t h) after_head (labels.label_one F end after_head) (λ m rest r s p q. p ∙ sym q)))

  pub no_line : (bs : List ℕ) (f : SheetFault) → length bs ≤ end → NoLine F (end - length bs) end bs f → Lined bs (Err f)
  no_line bs _ within (no_tail f u) = stops (sheet.Bytes f) (none f u)
  no_line bs _ within (no_head t rest f small e u) = goes t rest (first_number end t [] bs rest small e) (stops (sheet.Bytes f) (none_after end bs (text (t ∷ [])) rest f within e u))
  no_line bs _ within (no_label t h rest f small_t small_h e l) =
      let ends = text (t ∷ h ∷ []) in
      goes t (text (h ∷ []) ++ rest) (first_number end t (h ∷ []) bs rest small_t e)
      (goes h rest (first_number end h [] (text (h ∷ []) ++ rest) rest small_h refl)
      (stops f (labels.no_label F end rest f (rest_within end bs ends rest within e) (subst (λ (p : ℕ). NoLabel F p end rest f) (place_after end bs ends rest within e) l))))

  pub a_line : (bs : List ℕ) (l : Line M) (rest : List ℕ) → ALine F bs l rest → Lined bs (Ok (l, rest))
  a_line bs l rest a =
      let between = a.between in
      let t = l.tail in
      let h = l.head in
      goes t (text (h ∷ []) ++ between) (first_number end t (h ∷ []) bs between a.tail_small a.ends)
      (goes h between (first_number end h [] (text (h ∷ []) ++ between) between a.head_small refl)
      (goes l.label rest (labels.a_label F end between l.label rest a.label) refl))

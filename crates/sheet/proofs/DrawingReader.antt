-- Reading the lines that a sheet announces, each drawn under the rules before the next is read.
use Rattle.std.proofs.Common.{◌≡◌, ℕ, zero, suc, ◌+◌, ◌-◌, ◌≤◌, ◌≢◌, List, [], ◌∷◌, ◌++◌, length, Ok, Result, sym, refl, ◌∙◌, subst, append_assoc, append-nil, arith, length-append}
use Rattle.std.specs.List.{flat_map}
use Rattle.label.specs.Group.{Group}
use Rattle.label.specs.Form.{Form}
use Rattle.mesh.specs.Net.{Line, Net}
use Rattle.mesh.specs.Drawn.{Allowed, Drawing}
use Rattle.net.specs.Rules.{LineBreaks, line_rules}
use Rattle.sheet.specs.Stored.{text}
use Rattle.sheet.specs.Sheet.{line_numbers, AllWritten}
use Rattle.sheet.specs.Faults.{at_place}
use Rattle.sheet.specs.declared.faults.BytesFault.TheVariants as bytes
use Rattle.sheet.specs.declared.faults.SheetFault.{SheetFault}
use Rattle.sheet.specs.declared.faults.SheetFault.TheVariants as sheet
use Rattle.sheet.proofs.Drawable.{allowed_at, unbroken, written_line}
use Rattle.sheet.proofs.Readers.{One, Then, goes, then_one, Unless, unless_one, Ruled, kept, ruled_one}
use Rattle.sheet.proofs.LineReader.{Lined, line_one, a_line}

module _ {M : Type 0} (F : Form M) (G : Group M) (room end nodes : ℕ) where
  abbrev net_with : List (Line M) → Net M
  net_with ls = record { nodes = nodes; lines = ls }

  -- the line is drawn after those before it, if the rules allow it
  abbrev pub DrawnLine : List (Line M) → Line M → ℕ → (Result (Net M) SheetFault → Type 0) → Result (Net M) SheetFault → Type 0
  DrawnLine before l place Q = Ruled (LineBreaks G (net_with before) room room l) line_rules (λ e. sheet.Line (at_place e place)) Q

  -- so many lines more are read, and then the bytes end
  abbrev pub LinesLeft : ℕ → List (Line M) → List ℕ → Result (Net M) SheetFault → Type 0
  LinesLeft zero before bs = Unless (bs ≢ []) (sheet.Bytes (at_place bytes.LeftOver (end - length bs))) (λ r. r ≡ Ok (net_with before))
  LinesLeft (suc k) before bs = Then (Lined F end) (λ l rest. DrawnLine before l (end - length bs) (LinesLeft k (before ++ (l ∷ [])) rest)) bs

  pub lines_one : (k : ℕ) (before : List (Line M)) (bs : List ℕ) → One (LinesLeft k before bs)
  lines_one zero before bs = unless_one (bs ≢ []) (sheet.Bytes (at_place bytes.LeftOver (end - length bs))) (λ r. r ≡ Ok (net_with before)) (λ r s p q. p ∙ sym q)
  lines_one (suc k) before bs =
      then_one (Lined F end) (λ l rest. DrawnLine before l (end - length bs) (LinesLeft k (before ++ (l ∷ [])) rest)) bs (line_one F end bs) (λ l rest.
      ruled_one (LineBreaks G (net_with before) room room l) line_rules (λ e. sheet.Line (at_place e (end - length bs))) (LinesLeft k (before ++ (l ∷ [])) rest) (lines_one k (before ++ (l ∷ [])) rest))

  -- lines that can be drawn are read, and the others announced are to be read from the rest
  pub lines_read : (ls before : List (Line M)) (bs rest : List ℕ) (left all : ℕ) (r : Result (Net M) SheetFault) → nodes ≤ 24 → length before + length ls ≤ room → length before + length ls ≤ 96 → Drawing G nodes (before ++ ls) → AllWritten F ls →
      all ≡ length ls + left → bs ≡ text (flat_map (line_numbers F) ls) ++ rest → LinesLeft left (before ++ ls) rest r → LinesLeft all before bs r
  lines_read [] before bs rest left all r few in_room in_96 d w count e after =
      let same : left ≡ all = omega arith in
      subst (λ (k : ℕ). LinesLeft k before bs r) same
      (subst (λ (b : List ℕ). LinesLeft left before b r) (sym e)
      (subst (λ (ks : List (Line M)). LinesLeft left ks rest r) (append-nil before) after))
  lines_read (l ∷ ls) before bs rest left zero r few in_room in_96 d w count e after = absurd (let z : ⊥ = omega arith in z)
  lines_read (l ∷ ls) before bs rest left (suc all) r few in_room in_96 d w count e after =
      let more = text (flat_map (line_numbers F) ls) ++ rest in
      let allowed : Allowed G nodes before l = allowed_at G before l ls d in
      let move : before ++ (l ∷ ls) ≡ (before ++ (l ∷ [])) ++ ls = sym (append_assoc before (l ∷ []) ls) in
      let long : length (before ++ (l ∷ [])) ≡ length before + 1 = length-append before (l ∷ []) in
      goes l more (a_line F end bs l more (written_line F G nodes before l (flat_map (line_numbers F) ls) bs rest few allowed w.0 e))
      (kept (unbroken G nodes room before l (omega arith) (omega arith) allowed)
      (lines_read ls (before ++ (l ∷ [])) more rest left all r few (omega arith) (omega arith) (subst (Drawing G nodes) move d) w.1 (omega arith) refl
      (subst (λ (ks : List (Line M)). LinesLeft left ks rest r) move after)))

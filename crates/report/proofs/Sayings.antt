-- One line more, one node more, and the sheet written again.
use Rattle.std.proofs.Common.{◌≡◌, ℕ, suc, ◌+◌, ◌<◌, List, [], ◌∷◌, ◌++◌, length, get_or, take, Ok, Result, sym, ap, ◌∙◌, append_assoc, append-nil, add-zero, zero-add, add-one, arith}
use Rattle.std.proofs.lemmas.List.{take_more, length-take-le, drop_all}
use Rattle.label.specs.Group.{Group}
use Rattle.label.specs.Form.{Form}
use Rattle.mesh.specs.Net as mesh
use Rattle.net.specs.Verdict.{First, here, later}
use Rattle.net.specs.Rules.{PortsBreaks, ports_rules}
use Rattle.net.specs.declared.refusals.NetRefusal.{NetRefusal}
use Rattle.net.specs.declared.records.Line.{Line}
use Rattle.net.specs.declared.drafts.Draft.{Draft}
use Rattle.sheet.specs.Stored.{Small}
use Rattle.sheet.specs.Clauses.{WasRead, WriteSheet}
use Rattle.sheet.specs.declared.refusals.WriteRefusal.{WriteRefusal}
use Rattle.sheet.proofs.RoundTrips.{written_again}
use Rattle.report.specs.Lines.{line_said, ports_said}
use Rattle.report.specs.Shown.{next_line, lines_said, nodes_ports}

module _ {L : Type 0} (shown : L → List ℕ) where
  lines_push : (i j : ℕ) (ls : List (Line L)) (l : Line L) → i + length ls ≡ j → lines_said shown i (ls ++ (l ∷ [])) ≡ lines_said shown i ls ++ next_line (line_said shown j l)
  lines_push i j [] l e = append-nil (next_line (line_said shown i l)) ∙ ap (λ (k : ℕ). next_line (line_said shown k l)) (sym (add-zero i) ∙ e)
  lines_push i j (k ∷ ls) l e =
      ap (λ (q : List ℕ). next_line (line_said shown i k) ++ q) (lines_push (suc i) j ls l (omega arith))
      ∙ sym (append_assoc (next_line (line_said shown i k)) (lines_said shown (suc i) ls) (next_line (line_said shown j l)))

  -- the text with one line more
  pub lines_more : (start now more line : List ℕ) (list : List (Line L)) (i : ℕ) (l : Line L) → i < length list → l ≡ get_or list i l → now ≡ start ++ lines_said shown 0 (take i list) → more ≡ now ++ next_line line → line ≡ line_said shown i l → more ≡ start ++ lines_said shown 0 (take (i + 1) list)
  lines_more start now more line list i l h read inv pushed said =
      let one : take (i + 1) list ≡ take i list ++ (l ∷ []) = take_more list i l h ∙ ap (λ (x : Line L). take i list ++ (x ∷ [])) (sym read) in
      let many : 0 + length (take i list) ≡ i = zero-add (length (take i list)) ∙ length-take-le i list (omega arith) in
      pushed ∙ ap (λ (t : List ℕ). t ++ next_line line) inv ∙ append_assoc start (lines_said shown 0 (take i list)) (next_line line)
      ∙ ap (λ (t : List ℕ). start ++ (lines_said shown 0 (take i list) ++ next_line t)) said
      ∙ ap (λ (t : List ℕ). start ++ t) (sym (ap (lines_said shown 0) one ∙ lines_push 0 i (take i list) l many))

-- the text with one node more
pub ports_more : (count : ℕ → ℕ) (start now more line : List ℕ) (i n : ℕ) → now ≡ start ++ nodes_ports count i → more ≡ now ++ next_line line → line ≡ ports_said i n → n ≡ count i → more ≡ start ++ nodes_ports count (i + 1)
ports_more count start now more line i n inv pushed said counted =
    pushed ∙ ap (λ (t : List ℕ). t ++ next_line line) inv ∙ append_assoc start (nodes_ports count i) (next_line line)
    ∙ ap (λ (t : List ℕ). start ++ (nodes_ports count i ++ next_line t)) (said ∙ ap (ports_said i) counted)
    ∙ ap (λ (k : ℕ). start ++ nodes_ports count k) (sym (add-one i))

-- a node of the net has its ports told
pub ports_told : {M : Type 0} (net : mesh.Net M) (room lent node : ℕ) {e : NetRefusal} → lent ≡ room → node < net.nodes → First (PortsBreaks net room lent node) e ports_rules → ⊥
ports_told net room lent node same h (here other) = other same
ports_told net room lent node same h (later n (here off)) = omega arith
ports_told net room lent node same h (later n (later m f)) = elim f [ ]

-- what was read, written again into an output as long, fills it with the same bytes
pub same_again : {L M : Type 0} (G : Group M) (F : Form M) (stands : L → M) (kind : ℕ) → Small kind → (bytes : List ℕ) (before list : List (Line L)) (d : Draft) (out out' : List ℕ) (r : Result ℕ WriteRefusal) → WasRead G F stands kind bytes before d list → WriteSheet G F stands kind d list out r out' → length out ≡ length bytes → (r ≡ Ok (length bytes)) × (out' ≡ bytes)
same_again G F stands kind small bytes before list d out out' r was w e =
    let t = written_again G F stands kind small bytes before list d out out' r was w (omega arith) in
    (t.0, t.1 ∙ ap (λ (q : List ℕ). bytes ++ q) (drop_all (length bytes) out (omega arith)) ∙ append-nil bytes)

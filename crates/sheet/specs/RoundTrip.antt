-- What reading and writing make of each other. Assumes nothing.
use Rattle.std.specs.Prelude.{◌≡◌, ℕ, ◌≤◌, List, ◌++◌, length, take, drop, Ok, Result, MatchResult}
use Rattle.label.specs.Group.{Group}
use Rattle.label.specs.Form.{Form}
use Rattle.mesh.specs.Drawn.{Drawn}
use Rattle.net.specs.Model.{net_of}
use Rattle.net.specs.declared.records.Line.{Line}
use Rattle.net.specs.declared.drafts.Draft.{Draft}
use Rattle.sheet.specs.Clauses.{ReadSheet, WriteSheet}
use Rattle.sheet.specs.declared.faults.SheetFault.{SheetFault}
use Rattle.sheet.specs.declared.refusals.WriteRefusal.{WriteRefusal}

module _ {L M : Type 0} (G : Group M) (F : Form M) (stands : L → M) (kind : ℕ) where
  -- what reads, written again into an output with room for it, is the same bytes
  abbrev pub WrittenAgain : Type 0
  WrittenAgain =
      (bytes : List ℕ) (list list' : List (Line L)) (d : Draft) (out out' : List ℕ) (r : Result ℕ WriteRefusal) → ReadSheet G F stands kind bytes list (Ok d) list' → WriteSheet G F stands kind d list' out r out' →
      length bytes ≤ length out → (r ≡ Ok (length bytes)) × (out' ≡ bytes ++ drop (length bytes) out)

  -- what is written of a drawn net, read again into a list with room for its lines, is the same net
  abbrev pub ReadAgain : Type 0
  ReadAgain =
      (d : Draft) (list : List (Line L)) (out out' : List ℕ) (n : ℕ) (other other' : List (Line L)) (r : Result Draft SheetFault) → Drawn G (net_of stands d list) → WriteSheet G F stands kind d list out (Ok n) out' →
      d.lines ≤ length other → ReadSheet G F stands kind (take n out') other r other' → MatchResult r (λ e. net_of stands e other' ≡ net_of stands d list) (λ _. ⊥)

  -- no bytes read as two nets
  abbrev pub OneNet : Type 0
  OneNet =
      (bytes : List ℕ) (list list' other other' : List (Line L)) (d e : Draft) → ReadSheet G F stands kind bytes list (Ok d) list' → ReadSheet G F stands kind bytes other (Ok e) other' →
      net_of stands d list' ≡ net_of stands e other'

  -- the bytes and the list's length fix the answer: no sheet is both read and refused, or refused for two faults
  abbrev pub OneAnswer : Type 0
  OneAnswer =
      (bytes : List ℕ) (list list' other' : List (Line L)) (r s : Result Draft SheetFault) → ReadSheet G F stands kind bytes list r list' → ReadSheet G F stands kind bytes list s other' →
      MatchResult r (λ d. MatchResult s (λ e. net_of stands d list' ≡ net_of stands e other') (λ _. ⊥)) (λ f. MatchResult s (λ _. ⊥) (λ h. f ≡ h))

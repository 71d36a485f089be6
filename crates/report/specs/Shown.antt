-- What is said of a whole sheet. Assumes nothing.
use Rattle.std.specs.Prelude.{◌≡◌, ℕ, zero, suc, true, Ok, Err, Result, String, List, [], ◌∷◌, ◌++◌, length, take, string_bytes}
use Rattle.label.specs.Group.{Group}
use Rattle.label.specs.Form.{Form}
use Rattle.mesh.specs.Ports.{ports}
use Rattle.net.specs.Model.{net_of}
use Rattle.net.specs.declared.records.Line.{Line}
use Rattle.net.specs.declared.drafts.Draft.{Draft}
use Rattle.sheet.specs.Clauses.{WasRead, WasRefused}
use Rattle.report.specs.Lines.{line_said, sheet_said, nodes_said, ports_said, again_said}
use Rattle.std.specs.Global.{Global}
use Rattle.report.specs.declared.shown.NotShown.{NotShown}
use Rattle.report.specs.declared.shown.NotShown.TheVariants.{OutOfMemory, Refused}

-- a text on a line of its own, after others
abbrev pub next_line : List ℕ → List ℕ
next_line s = 10 ∷ s

-- the lines of a net, counted from i
abbrev pub lines_said : {L : Type 0} → (L → List ℕ) → ℕ → List (Line L) → List ℕ
lines_said shown i [] = []
lines_said shown i (l ∷ ls) = next_line (line_said shown i l) ++ lines_said shown (suc i) ls

-- the first k nodes, with how many ports each has
abbrev pub nodes_ports : (ℕ → ℕ) → ℕ → List ℕ
nodes_ports count zero = []
nodes_ports count (suc k) = nodes_ports count k ++ next_line (ports_said k (count k))

module _ {L M : Type 0} (G : Group M) (F : Form M) (stands : L → M) (kind : ℕ) (name : List ℕ) (shown : L → List ℕ) where
  -- the sheet, the nodes, the lines, the ports, and that the net is written as it was read
  abbrev pub net_said : List ℕ → Draft → List (Line L) → List ℕ
  net_said bytes d list =
      (((sheet_said name (length bytes) ++ next_line (nodes_said d.nodes)) ++ lines_said shown 0 (take d.lines list)) ++ nodes_ports (λ u. length (ports G (net_of stands d list) u)) d.nodes)
      ++ next_line (again_said (length bytes) true)

  -- what is said of the bytes, where reading them changes the list so: the net that was read, or the fault; where memory ran out, a net was read and nothing is said of it
  abbrev pub Says : List ℕ → List (Line L) → Result (String Global) NotShown → List (Line L) → Type 0
  Says bytes list (Ok s) list' = (d : Draft) × WasRead G F stands kind bytes list d list' × (string_bytes s ≡ net_said bytes d list')
  Says bytes list (Err (Refused f)) list' = WasRefused G F stands kind bytes list f list'
  Says bytes list (Err (OutOfMemory e)) list' = (d : Draft) × WasRead G F stands kind bytes list d list'

-- What each call of drawing answers and leaves. Assumes nothing.
use Rattle.std.specs.Prelude.{◌≡◌, ℕ, ◌+◌, List, [], length, Result, slice_set}
use Rattle.label.specs.Group.{Group}
use Rattle.mesh.specs.Net as mesh
use Rattle.mesh.specs.Drawn.{Drawn}
use Rattle.mesh.specs.Ports.{ports}
use Rattle.net.specs.Verdict.{Settled}
use Rattle.net.specs.Model.{line_of, net_of, with_line}
use Rattle.net.specs.Rules.{LineBreaks, line_rules, OpenBreaks, open_rules, BackBreaks, back_rules, PortsBreaks, ports_rules}
use Rattle.net.specs.declared.records.Line.{Line}
use Rattle.net.specs.declared.drafts.Draft.{Draft}
use Rattle.net.specs.declared.refusals.NetRefusal.{NetRefusal}

-- an accepted line: one record is written, at the place of the count, and the net has the line as its last
pub record DrawnOn {L M : Type 0} (G : Group M) (stands : L → M) (d : Draft) (list : List (Line L)) (l : Line L) (d' : Draft) (list' : List (Line L)) : Type 0 where
  pub wrote : list' ≡ slice_set list d.lines l
  pub counted : d'.lines ≡ d.lines + 1
  pub same_nodes : d'.nodes ≡ d.nodes
  pub same_room : d'.room ≡ d.room
  pub net : net_of stands d' list' ≡ with_line (net_of stands d list) (line_of stands l)
  pub drawn : Drawn G (net_of stands d list) → Drawn G (net_of stands d' list')

-- the answer of `line`, for every draft and every list
abbrev pub LineClause : {L M : Type 0} → Group M → (L → M) → Draft → List (Line L) → Line L → Result Unit NetRefusal → Draft → List (Line L) → Type 0
LineClause G stands d list l r d' list' =
    Settled (LineBreaks G (net_of stands d list) d.room (length list) (line_of stands l)) line_rules
    (λ _. DrawnOn G stands d list l d' list') ((d' ≡ d) × (list' ≡ list)) r

-- an opened draft: the nodes asked for, no lines, and the list's length
pub record Opened {L M : Type 0} (G : Group M) (stands : L → M) (nodes : ℕ) (list : List (Line L)) (d : Draft) : Type 0 where
  pub net : net_of stands d list ≡ record { nodes = nodes; lines = [] }
  pub same_nodes : d.nodes ≡ nodes
  pub blank : d.lines ≡ 0
  pub room : d.room ≡ length list
  pub drawn : Drawn G (net_of stands d list)

-- the answer of `open`
abbrev pub OpenClause : {L M : Type 0} → Group M → (L → M) → ℕ → List (Line L) → Result Draft NetRefusal → Type 0
OpenClause G stands nodes list r = Settled (OpenBreaks nodes) open_rules (λ d. Opened G stands nodes list d) (Unit {0}) r

-- the last line taken back: the net has the lines before it
pub record TakenBack {L M : Type 0} (G : Group M) (stands : L → M) (d : Draft) (list : List (Line L)) (d' : Draft) : Type 0 where
  pub counted : d'.lines + 1 ≡ d.lines
  pub same_nodes : d'.nodes ≡ d.nodes
  pub same_room : d'.room ≡ d.room
  pub net : (l : mesh.Line M) × (net_of stands d list ≡ with_line (net_of stands d' list) l)
  pub drawn : Drawn G (net_of stands d list) → Drawn G (net_of stands d' list)

-- the answer of `take_back`, for every draft and every list
abbrev pub BackClause : {L M : Type 0} → Group M → (L → M) → Draft → List (Line L) → Result Unit NetRefusal → Draft → Type 0
BackClause G stands d list r d' =
    Settled (BackBreaks (net_of stands d list) d.room (length list)) back_rules (λ _. TakenBack G stands d list d') (d' ≡ d) r

-- the answer of `ports`: how many ports the node has
abbrev pub PortsClause : {L M : Type 0} → Group M → (L → M) → Draft → List (Line L) → ℕ → Result ℕ NetRefusal → Type 0
PortsClause G stands d list node r =
    Settled (PortsBreaks (net_of stands d list) d.room (length list) node) ports_rules (λ n. n ≡ length (ports G (net_of stands d list) node)) (Unit {0}) r

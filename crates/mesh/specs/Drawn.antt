-- The rules of drawing, and the nets that can be drawn line by line under them. Assumes nothing.
use Rattle.std.specs.Prelude.{◌≡◌, ℕ, ◌<◌, ◌≤◌, ◌⊎◌, List, [], ◌∷◌, ◌++◌, length}
use Rattle.label.specs.Group.{Group}
use Rattle.mesh.specs.Listed.{In}
use Rattle.mesh.specs.Net.{Line, Net}
use Rattle.mesh.specs.Ports.{ahead, ports_of}

-- an end of the line is no node
abbrev pub OffNodes : {M : Type 0} → ℕ → Line M → Type 0
OffNodes nodes l = (nodes ≤ l.tail) ⊎ (nodes ≤ l.head)

-- a loop with the identity: each of its links would join a junction to itself
abbrev pub IdentityLoop : {M : Type 0} → Group M → Line M → Type 0
IdentityLoop G l = (l.tail ≡ l.head) × (l.label ≡ G.one)

-- a loop whose label is its own inverse: its two ports would lead to one junction
abbrev pub InvolutionLoop : {M : Type 0} → Group M → Line M → Type 0
InvolutionLoop G l = (l.tail ≡ l.head) × (l.label ≡ G.inv l.label)

-- the line's tail has a port to the same head with the same label already
abbrev pub PortTaken : {M : Type 0} → Group M → List (Line M) → Line M → Type 0
PortTaken G before l = In (ahead l) (ports_of G l.tail before)

-- with the line, the node would have more than 12 ports
abbrev pub Crowded : {M : Type 0} → Group M → List (Line M) → Line M → ℕ → Type 0
Crowded G before l u = 12 < length (ports_of G u (before ++ (l ∷ [])))

-- with the line, its tail or its head would have more than 12 ports
abbrev pub PortsFull : {M : Type 0} → Group M → List (Line M) → Line M → Type 0
PortsFull G before l = Crowded G before l l.tail ⊎ Crowded G before l l.head

-- the line breaks none of the rules, after the lines before it
pub record Allowed {M : Type 0} (G : Group M) (nodes : ℕ) (before : List (Line M)) (l : Line M) : Type 0 where
  pub on_nodes : OffNodes nodes l → ⊥
  pub moves : IdentityLoop G l → ⊥
  pub turns : InvolutionLoop G l → ⊥
  pub fresh : PortTaken G before l → ⊥
  pub room : PortsFull G before l → ⊥

-- the lines can be drawn one after another on the nodes
pub data Drawing {M : Type 0} (G : Group M) (nodes : ℕ) : List (Line M) → Type 0 where
  blank : Drawing G nodes []
  draw : {before : List (Line M)} {l : Line M} → Drawing G nodes before → Allowed G nodes before l → Drawing G nodes (before ++ (l ∷ []))

-- the net's lines can be drawn on its nodes
abbrev pub Drawn : {M : Type 0} → Group M → Net M → Type 0
Drawn G net = Drawing G net.nodes net.lines

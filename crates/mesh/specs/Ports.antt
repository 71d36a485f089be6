-- The ports of a node: the ways to leave it along its lines, in the order of the lines. Assumes nothing.
use Rattle.std.specs.Prelude.{ℕ, cond, List, [], ◌∷◌, ◌++◌, ◌==◌}
use Rattle.label.specs.Group.{Group}
use Rattle.mesh.specs.Net.{Line, Net}

-- a port leads to a node, and multiplies by a label
pub record Port (M : Type 0) : Type 0 where
  pub to : ℕ
  pub label : M

-- the port forward along a line
abbrev pub ahead : {M : Type 0} → Line M → Port M
ahead l = record { to = l.head; label = l.label }

-- the port backward along a line, with the inverse label
abbrev pub behind : {M : Type 0} → Group M → Line M → Port M
behind G l = record { to = l.tail; label = G.inv l.label }

-- what a line gives the node u: a port forward if u is its tail, then a port backward if u is its head; a loop gives both
abbrev pub line_ports : {M : Type 0} → Group M → ℕ → Line M → List (Port M)
line_ports {M} G u l =
    let none : List (Port M) = [] in
    cond (l.tail == u) (ahead l ∷ none) none ++ cond (l.head == u) (behind G l ∷ none) none

-- what the lines give the node u, in their order
abbrev pub ports_of : {M : Type 0} → Group M → ℕ → List (Line M) → List (Port M)
ports_of G u [] = []
ports_of G u (l ∷ ls) = line_ports G u l ++ ports_of G u ls

-- the ports of the node u in the net
abbrev pub ports : {M : Type 0} → Group M → Net M → ℕ → List (Port M)
ports G net u = ports_of G u net.lines

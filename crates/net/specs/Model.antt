-- The net that a draft and its line list hold. Assumes nothing.
use Rattle.std.specs.Prelude.{ℕ, List, [], ◌∷◌, ◌++◌, map, take}
use Rattle.mesh.specs.Net as mesh
use Rattle.net.specs.declared.records.Line.{Line}
use Rattle.net.specs.declared.drafts.Draft.{Draft}

-- a record of the list, its label read as what it stands for
abbrev pub line_of : {L M : Type 0} → (L → M) → Line L → mesh.Line M
line_of stands l = record { tail = l.tail; head = l.head; label = stands l.label }

-- the first k records of the list as lines
abbrev pub lines_of : {L M : Type 0} → (L → M) → ℕ → List (Line L) → List (mesh.Line M)
lines_of stands k list = map (line_of stands) (take k list)

-- the draft's nodes, and as lines the first records of the list
abbrev pub net_of : {L M : Type 0} → (L → M) → Draft → List (Line L) → mesh.Net M
net_of stands d list = record { nodes = d.nodes; lines = lines_of stands d.lines list }

-- the net with one more line, the last
abbrev pub with_line : {M : Type 0} → mesh.Net M → mesh.Line M → mesh.Net M
with_line net l = record { nodes = net.nodes; lines = net.lines ++ (l ∷ []) }

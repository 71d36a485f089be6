-- An example: the net of the cubic lattice. Assumes nothing.
use Rattle.std.specs.Prelude.{[], ◌∷◌, ℤ, pos}
use Rattle.lattice.specs.Triples.{Triple, triple}
use Rattle.mesh.specs.Net.{Line, Net}

-- a loop at the node 0 with three numbers
abbrev pub loop : ℤ → ℤ → ℤ → Line Triple
loop x y z = record { tail = 0; head = 0; label = triple x y z }

-- one node, and a loop for each direction
abbrev pub cubic : Net Triple
cubic = record { nodes = 1; lines = loop (pos 1) (pos 0) (pos 0) ∷ loop (pos 0) (pos 1) (pos 0) ∷ loop (pos 0) (pos 0) (pos 1) ∷ [] }

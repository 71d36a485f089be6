-- The net of the diamond mesh. Assumes nothing.
use Rattle.std.specs.Prelude.{[], ◌∷◌, ℤ, pos}
use Rattle.lattice.specs.Triples.{Triple, triple}
use Rattle.mesh.specs.Net.{Line, Net}

-- a line from the node 0 to the node 1, with a shift
abbrev pub bond : ℤ → ℤ → ℤ → Line Triple
bond x y z = record { tail = 0; head = 1; label = triple x y z }

-- two nodes, with four lines from the first to the second: one with the identity, and one along each axis
abbrev pub diamond : Net Triple
diamond = record {
  nodes = 2;
  lines = bond (pos 0) (pos 0) (pos 0) ∷ bond (pos 1) (pos 0) (pos 0) ∷ bond (pos 0) (pos 1) (pos 0) ∷ bond (pos 0) (pos 0) (pos 1) ∷ [];
}

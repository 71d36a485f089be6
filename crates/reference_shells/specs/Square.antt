-- The net of the square mesh. Assumes nothing.
use Rattle.std.specs.Prelude.{[], ◌∷◌, pos}
use Rattle.lattice.specs.Triples.{Triple, triple}
use Rattle.mesh.specs.Net.{Net}

-- one node, with a loop along the first axis and one along the second
abbrev pub square : Net Triple
square = record {
  nodes = 1;
  lines = record { tail = 0; head = 0; label = triple (pos 1) (pos 0) (pos 0) } ∷ record { tail = 0; head = 0; label = triple (pos 0) (pos 1) (pos 0) } ∷ [];
}

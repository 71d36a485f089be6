-- The net of the fourfold screw mesh. Assumes nothing.
use Rattle.std.specs.Prelude.{[], ◌∷◌, pos}
use Rattle.lattice.specs.Coord.{coord}
use Rattle.lattice.specs.Screws.{ScrewMotion, place}
use Rattle.mesh.specs.Net.{Net}

-- one node, with a loop along the first axis and one that climbs and turns
abbrev pub fourfold_screw : Net ScrewMotion
fourfold_screw = record {
  nodes = 1;
  lines = record { tail = 0; head = 0; label = (place (pos 1) (pos 0), coord (pos 0)) } ∷ record { tail = 0; head = 0; label = (place (pos 0) (pos 0), coord (pos 1)) } ∷ [];
}

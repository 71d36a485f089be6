-- Which junctions of the mesh of a net are linked: the edges of the derived graph. Assumes nothing.
use Rattle.std.specs.Prelude.{◌≡◌}
use Rattle.label.specs.Group.{Group}
use Rattle.mesh.specs.Listed.{In}
use Rattle.mesh.specs.Net.{Line, Net}
use Rattle.mesh.specs.Junction.{Junction, spot}

-- the line leads from a to b: b is at its head, with the label of a times the line's label
pub record Along {M : Type 0} (G : Group M) (l : Line M) (a b : Junction M) : Type 0 where
  pub by : M
  pub starts : a ≡ spot l.tail by
  pub ends : b ≡ spot l.head (G.mul by l.label)

-- a line of the net leads from a to b, or from b to a
pub data Link {M : Type 0} (G : Group M) (net : Net M) (a b : Junction M) : Type 0 where
  forward : (l : Line M) → In l net.lines → Along G l a b → Link G net a b
  backward : (l : Line M) → In l net.lines → Along G l b a → Link G net a b

-- Maps between the junctions of two meshes that go port by port. Assumes nothing.
use Rattle.std.specs.Prelude.{◌≡◌, map}
use Rattle.label.specs.Group.{Group}
use Rattle.mesh.specs.Net.{Net}
use Rattle.mesh.specs.Junction.{Junction}
use Rattle.mesh.specs.Target.{neighbours}

-- f keeps the node of a junction, and takes where its ports lead to where the ports of f a lead, place by place
pub record MeshMap {M N : Type 0} (G : Group M) (net : Net M) (H : Group N) (net' : Net N) (f : Junction M → Junction N) : Type 0 where
  pub nodes : (a : Junction M) → (f a).node ≡ a.node
  pub targets : (a : Junction M) → map f (neighbours G net a) ≡ neighbours H net' (f a)

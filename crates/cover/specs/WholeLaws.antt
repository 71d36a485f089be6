-- What the mesh over the wrapping translations has of the mesh over the whole numbers. Assumes nothing.
use Rattle.std.specs.Prelude.{◌≡◌, ℕ, ◌+◌, ◌*◌, ◌≤◌, ◌↔◌}
use Rattle.mesh.specs.Exactly.{Many}
use Rattle.mesh.specs.Net.{Net}
use Rattle.mesh.specs.Junction.{Junction}
use Rattle.mesh.specs.Link.{Link}
use Rattle.mesh.specs.Shell.{Shell}
use Rattle.lattice.specs.Triples.{Triple}
use Rattle.cover.specs.Covers.{Covers}
use Rattle.cover.specs.MeshMap.{MeshMap}
use Rattle.cover.specs.MeshCoverLaws.{MeshCoverLaws}
use Rattle.cover.specs.Whole.{Whole, whole}
use Rattle.lattice.specs.Translations.{translations}
use Rattle.cover.specs.Wrap.{wrap_junction}
use Rattle.cover.specs.WholeNet.{whole_net}

-- up to the radius r, the mesh of the net is that over the whole numbers
pub record WholeLaws (net : Net Triple) (r : ℕ) : Type 0 where
  -- to wrap goes port by port, and each junction is that to which some junction wraps
  pub mapped : MeshMap whole (whole_net net) translations net wrap_junction
  pub onto : (b : Junction Triple) → (a : Junction Whole) × (wrap_junction a ≡ b)
  -- it is a cover up to 2·r + 1 links
  pub covers : Covers (Link whole (whole_net net)) (Link translations net) wrap_junction (2 * r + 1)
  -- so distances, the numbers of junctions at a distance, and the numbers of rings through two ports are those over the whole numbers
  pub kept : MeshCoverLaws whole (whole_net net) translations net wrap_junction r
  -- and so are the numbers of the shells round a home
  pub shells : (v k n : ℕ) → k ≤ r → Many (Shell whole (whole_net net) v k) n ↔ Many (Shell translations net v k) n

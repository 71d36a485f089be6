-- What a map of meshes keeps that goes port by port and does not fold at short range. Assumes nothing.
use Rattle.std.specs.Prelude.{◌≡◌, ℕ, ◌+◌, ◌*◌, ◌<◌, ◌≤◌, ◌↔◌, length}
use Rattle.label.specs.Group.{Group}
use Rattle.mesh.specs.Distance.{Distance, Within}
use Rattle.mesh.specs.Exactly.{Many}
use Rattle.mesh.specs.Net.{Net}
use Rattle.mesh.specs.Junction.{Junction}
use Rattle.mesh.specs.Link.{Link}
use Rattle.mesh.specs.Ports.{Port, ports}
use Rattle.rings.specs.RingsOf.{RingsOf}
use Rattle.cover.specs.PortTarget.{port_target}

-- the laws of such a map up to the radius r
pub record MeshCoverLaws {M N : Type 0} (G : Group M) (net : Net M) (H : Group N) (net' : Net N) (f : Junction M → Junction N) (r : ℕ) : Type 0 where
  -- distances up to r are kept
  pub distances : (n : ℕ) (a b : Junction M) → n ≤ r → Distance (Link G net) n a b → Distance (Link H net') n (f a) (f b)
  -- what is at a distance from f a is that of something at this distance from a
  pub distances_lift : (n : ℕ) (a : Junction M) (b' : Junction N) → Distance (Link H net') n (f a) b' → (b : Junction M) × Distance (Link G net) n a b × (f b ≡ b')
  -- junctions at most r apart have the distance of those to which they go
  pub distances_back : (n : ℕ) (a b : Junction M) → n ≤ r → Within (Link G net) r a b → Distance (Link H net') n (f a) (f b) → Distance (Link G net) n a b
  -- up to r, as many junctions are at a distance from a as from f a
  pub shell_numbers : (n : ℕ) (a : Junction M) (k : ℕ) → n ≤ r → Many (Distance (Link G net) n a) k ↔ Many (Distance (Link H net') n (f a)) k
  -- a node has as many ports in the one net as in the other
  pub port_numbers : (u : ℕ) → length (ports H net' u) ≡ length (ports G net u)
  -- where the port at a place leads from a goes to where the port at that place leads from f a
  pub port_targets : (a : Junction M) (d : Port M) (d' : Port N) (i : ℕ) → i < length (ports G net a.node) → f (port_target G net a d i) ≡ port_target H net' (f a) d' i
  -- up to the length 2·r + 1, as many rings go through two ports at a as through the ports at f a in the same places
  pub ring_numbers : (L : ℕ) (a : Junction M) (d : Port M) (d' : Port N) (i j n : ℕ) → L ≤ 2 * r + 1 → i < length (ports G net a.node) → j < length (ports G net a.node) → RingsOf (Link G net) L a (port_target G net a d i) (port_target G net a d j) n ↔ RingsOf (Link H net') L (f a) (port_target H net' (f a) d' i) (port_target H net' (f a) d' j) n

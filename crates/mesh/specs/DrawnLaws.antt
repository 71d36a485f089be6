-- What is proved of the ports of a drawn net. Assumes nothing.
use Rattle.std.specs.Prelude.{◌≡◌, ℕ, ◌<◌, ◌≤◌, length, ◌≢◌, slice_index_or}
use Rattle.label.specs.Group.{Group}
use Rattle.mesh.specs.Listed.{In}
use Rattle.mesh.specs.Exactly.{Distinct, Exactly}
use Rattle.mesh.specs.Net.{Net}
use Rattle.mesh.specs.Junction.{Junction}
use Rattle.mesh.specs.Link.{Link}
use Rattle.mesh.specs.Ports.{Port, ports}
use Rattle.mesh.specs.Target.{target, neighbours}

-- the mesh has no loops and no double links, and its degrees are the numbers of ports
pub record DrawnLaws {M : Type 0} (G : Group M) (net : Net M) : Type 0 where
  -- the ports of a node differ, and lead to different junctions
  pub distinct : (u : ℕ) → Distinct (ports G net u)
  pub targets : (a : Junction M) → Distinct (neighbours G net a)
  -- the same by places: two places with one port, or with one target, are one place
  pub one_place : (u i j : ℕ) (d : Port M) → i < length (ports G net u) → j < length (ports G net u) → slice_index_or (ports G net u) i d ≡ slice_index_or (ports G net u) j d → i ≡ j
  pub one_target : (u : ℕ) (h : M) (i j : ℕ) (d : Port M) → i < length (ports G net u) → j < length (ports G net u) → target G h (slice_index_or (ports G net u) i d) ≡ target G h (slice_index_or (ports G net u) j d) → i ≡ j
  -- where its ports lead is exactly what a junction is linked to, each once: its degree is the number of ports
  pub linked : (a : Junction M) → Exactly (Link G net a) (neighbours G net a)
  -- no port leads where it starts, so no junction is linked to itself
  pub no_stay : (u : ℕ) (p : Port M) → In p (ports G net u) → p.to ≡ u → p.label ≢ G.one
  pub no_self : (a : Junction M) → Link G net a a → ⊥
  -- ports join nodes of the net, at most 12 to a node
  pub node_here : (u : ℕ) (p : Port M) → In p (ports G net u) → u < net.nodes
  pub node_there : (u : ℕ) (p : Port M) → In p (ports G net u) → p.to < net.nodes
  pub room : (u : ℕ) → length (ports G net u) ≤ 12

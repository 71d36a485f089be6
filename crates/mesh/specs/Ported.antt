-- The links of a junction are the ports of its node. Assumes nothing.
use Rattle.std.specs.Prelude.{◌≡◌, ℕ, ◌↔◌}
use Rattle.label.specs.Group.{Group}
use Rattle.mesh.specs.Listed.{In}
use Rattle.mesh.specs.Net.{Net}
use Rattle.mesh.specs.Junction.{Junction, spot}
use Rattle.mesh.specs.Link.{Link}
use Rattle.mesh.specs.Ports.{Port, ports}
use Rattle.mesh.specs.Target.{target, port_back}

-- how ports and links go together, in any net
pub record Ported {M : Type 0} (G : Group M) (net : Net M) : Type 0 where
  -- (u, h) is linked to b exactly if b is the target of a port of u
  pub links : (u : ℕ) (h : M) (b : Junction M) → Link G net (spot u h) b ↔ ((p : Port M) × In p (ports G net u) × (b ≡ target G h p))
  -- where a port of u leads, there is a port back to u, and it leads back to the same junction
  pub back : (u : ℕ) (p : Port M) → In p (ports G net u) → In (port_back G u p) (ports G net p.to)
  pub returns : (u : ℕ) (h : M) (p : Port M) → target G (target G h p).label (port_back G u p) ≡ spot u h

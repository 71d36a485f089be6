-- Where the ports lead from a junction, and the port that leads back. Assumes nothing.
use Rattle.std.specs.Prelude.{ℕ, List, map}
use Rattle.label.specs.Group.{Group}
use Rattle.mesh.specs.Net.{Net}
use Rattle.mesh.specs.Junction.{Junction, spot}
use Rattle.mesh.specs.Ports.{Port, ports}

-- the junction to which a port leads from the junction of its node with the label h
abbrev pub target : {M : Type 0} → Group M → M → Port M → Junction M
target G h p = spot p.to (G.mul h p.label)

-- where the ports of its node lead from a junction, in the order of the ports
abbrev pub neighbours : {M : Type 0} → Group M → Net M → Junction M → List (Junction M)
neighbours G net a = map (target G a.label) (ports G net a.node)

-- the port back to the node u from where its port p leads
abbrev pub port_back : {M : Type 0} → Group M → ℕ → Port M → Port M
port_back G u p = record { to = u; label = G.inv p.label }

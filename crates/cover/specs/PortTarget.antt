-- Where the port at a place leads from a junction. Assumes nothing.
use Rattle.std.specs.Prelude.{ℕ, slice_index_or}
use Rattle.label.specs.Group.{Group}
use Rattle.mesh.specs.Net.{Net}
use Rattle.mesh.specs.Junction.{Junction}
use Rattle.mesh.specs.Ports.{Port, ports}
use Rattle.mesh.specs.Target.{target}

-- the junction to which the port at the place i of its node leads from a; d stands for the port at a place that is not there
abbrev pub port_target : {M : Type 0} → Group M → Net M → Junction M → Port M → ℕ → Junction M
port_target G net a d i = target G a.label (slice_index_or (ports G net a.node) i d)

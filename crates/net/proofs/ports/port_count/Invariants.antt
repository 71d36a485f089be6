use Rattle.std.proofs.Common.{◌≡◌, ◌*◌, ◌≤◌, length}
use Rattle.mesh.specs.Ports.{ports_of}
use Rattle.net.specs.Model.{lines_of}
use Rattle.net.proofs.ports.port_count.Given as goal

abbrev pub invariant-loop-i : goal.invariant-loop-i
invariant-loop-i g l = (l.count ≤ 2 * l.i) × (l.count ≡ length (ports_of g.L.Label.group l.node (lines_of g.L.Label.stands l.i l.lines)))

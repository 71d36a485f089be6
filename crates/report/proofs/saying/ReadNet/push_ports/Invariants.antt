use Rattle.std.proofs.Common.{◌≡◌, ◌++◌, length, string_bytes}
use Rattle.mesh.specs.Ports.{ports}
use Rattle.net.specs.Model.{net_of}
use Rattle.report.specs.Shown.{nodes_ports}
use Rattle.report.proofs.saying.ReadNet.push_ports.Given as goal

abbrev pub invariant-loop-node : goal.invariant-loop-node
invariant-loop-node g l =
    string_bytes l.text ≡ string_bytes l.initial.text ++ nodes_ports (λ u. length (ports g.K.Label.group (net_of g.K.Label.stands l.self.draft.now l.self.list.now) u)) l.node

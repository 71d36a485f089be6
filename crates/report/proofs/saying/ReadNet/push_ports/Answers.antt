use Rattle.std.proofs.Common.{length, string_bytes, ◌∙◌, arith}
use Rattle.mesh.specs.Ports.{ports}
use Rattle.net.specs.Model.{net_of}
use Rattle.report.proofs.Sayings.{ports_more, ports_told}
use Rattle.report.proofs.saying.ReadNet.push_ports.Goals as goal

pub unreachable-requires : goal.unreachable-requires
unreachable-requires g c = ports_told (net_of g.K.Label.stands c.args.self.now.draft.now c.args.self.now.list.now) c.args.self.now.draft.now.room (length c.args.self.now.list.now) c.loop-node.node c.args.self.now.lent (omega (arith, c.nodes-node-end.ensures, c.loop-node-test.true)) c.in-Err.ensures.0

pub loop-node-preserved : goal.loop-node-preserved
loop-node-preserved g c =
    ports_more (λ u. length (ports g.K.Label.group (net_of g.K.Label.stands c.args.self.now.draft.now c.args.self.now.list.now) u)) (string_bytes c.args.text.now) (string_bytes c.loop-node.text) (string_bytes c.push_line.new.text) c.as_str.result.now c.loop-node.node c.in-Ok.ports c.loop-node.invariant c.in_ok-push_line-in-Ok.ensures (c.as_str.ensures.value ∙ c.in_ok-ports_text-in-Ok.ensures) c.in-Ok.ensures.1

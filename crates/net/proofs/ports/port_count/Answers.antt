use Rattle.std.proofs.Common.{◌<◌, length, arith}
use Rattle.net.proofs.Steps.{count_more}
use Rattle.net.proofs.ports.port_count.Goals as goal

pub loop-i-preserved : goal.loop-i-preserved
loop-i-preserved g c =
    let inside : c.loop-i.i < length c.args.lines.now = omega arith in
    let more = count_more g.L.Label.stands g.L.Label.group c.args.node c.args.lines.now c.loop-i.i c.index-lines-i.result inside c.index-lines-i.is in
    (omega arith, omega arith)

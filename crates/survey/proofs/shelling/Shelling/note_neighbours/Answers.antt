use Rattle.std.proofs.Common.{◌+◌, ◌<◌, length, Ok, Err, arith}
use Rattle.std.proofs.lemmas.Result.{err_from_is_err_and}
use Rattle.survey.proofs.Ports.{lines_joined, lines_short}
use Rattle.survey.proofs.shelling.Shelling.note_neighbours.Goals as goal

pub returns-in_err-note_line : goal.returns-in_err-note_line
returns-in_err-note_line g c =
    let inside : c.loop-line.line-index < length c.args.lines.now = omega arith in
    let p = err_from_is_err_and c.from_residual.result c.from_residual.ensures.1 in
    let s = c.args.self.now in
    let there = c.note_line.new.self in
    rw p.1
    (lines_short g.L.Label.group g.L.Label.order g.L.Label.stands (g.L.Label.stands c.args.from.label) c.args.from.node s there there c.args.lines.now (c.loop-line.line-index + 1) p.0
    (lines_joined g.L.Label.group g.L.Label.order g.L.Label.stands (g.L.Label.stands c.args.from.label) c.args.from.node s c.loop-line.self there c.args.lines.now
    c.loop-line.line-index c.line-item.result inside c.line-item.is (Err p.0) c.loop-line.invariant c.in_err-note_line.ensures))

pub loop-line-preserved : goal.loop-line-preserved
loop-line-preserved g c =
    let inside : c.loop-line.line-index < length c.args.lines.now = omega arith in
    lines_joined g.L.Label.group g.L.Label.order g.L.Label.stands (g.L.Label.stands c.args.from.label) c.args.from.node c.args.self.now c.loop-line.self c.note_line.new.self c.args.lines.now
    c.loop-line.line-index c.line-item.result inside c.line-item.is (Ok tt) c.loop-line.invariant c.in_ok-note_line.ensures

use Rattle.std.proofs.Common.{string_bytes, ◌∙◌}
use Rattle.report.proofs.Sayings.{lines_more}
use Rattle.report.proofs.saying.ReadNet.push_lines.Goals as goal

pub loop-i-preserved : goal.loop-i-preserved
loop-i-preserved g c =
    lines_more g.K.ShownKind.shown (string_bytes c.args.text.now) (string_bytes c.loop-i.text) (string_bytes c.push_line.new.text) c.as_str.result.now c.in-Ok.lines.now c.loop-i.i c.index-lines-i.result c.loop-i-test.true c.index-lines-i.is c.loop-i.invariant c.in_ok-push_line.ensures (c.as_str.ensures.value ∙ c.in_ok-line_text.ensures)

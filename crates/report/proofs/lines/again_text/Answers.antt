use Rattle.report.proofs.lines.again_text.Goals as goal

pub returns-then-same : goal.returns-then-same
returns-then-same c = simp c.if-same.true c.format.ensures.ok

pub returns-else-same : goal.returns-else-same
returns-else-same c = simp c.if-same.false c.format-else-same.ensures.ok

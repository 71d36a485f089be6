use Rattle.std.proofs.Common.{◌≡◌, ◌++◌, take, string_bytes}
use Rattle.report.specs.Shown.{lines_said}
use Rattle.report.proofs.saying.ReadNet.push_lines.Given as goal

abbrev pub invariant-loop-i : goal.invariant-loop-i
invariant-loop-i g l = string_bytes l.text ≡ string_bytes l.initial.text ++ lines_said g.K.ShownKind.shown 0 (take l.i l.lines)

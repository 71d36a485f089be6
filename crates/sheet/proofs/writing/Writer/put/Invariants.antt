use Rattle.std.proofs.Common.{◌≡◌, ◌++◌, length, take, drop}
use Rattle.sheet.specs.Stored.{text}
use Rattle.sheet.specs.Writing.{numbers_of}
use Rattle.sheet.proofs.writing.Writer.put.Given as goal

abbrev pub invariant-loop-at : goal.invariant-loop-at
invariant-loop-at g l =
    let ns = numbers_of g.K.Label.form g.K.Label.stands l.self.nodes l.self.lines.now g.K.SheetKind.KIND in
    (l.end ≡ length (text (take l.at ns))) × (l.out ≡ text (take l.at ns) ++ drop l.end l.initial.out)

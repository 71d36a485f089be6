use Rattle.std.proofs.Common.{◌≡◌}
use Rattle.sheet.proofs.Progress.{Underway}
use Rattle.sheet.proofs.reading.read.Given as goal

abbrev pub invariant-loop-i : goal.invariant-loop-i
invariant-loop-i g l =
    record {
      bytes : l.reader.bytes.now ≡ l.bytes;
      underway : Underway g.K.Label.group g.K.Label.form g.K.Label.stands g.K.SheetKind.KIND l.bytes l.initial.list l.lines l.draft l.list l._i l.reader.place;
    }

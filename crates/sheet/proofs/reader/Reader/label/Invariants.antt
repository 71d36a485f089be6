use Rattle.std.proofs.Common.{◌≡◌, length}
use Rattle.sheet.proofs.Spelled.{Spelled}
use Rattle.sheet.proofs.reader.Reader.label.Given as goal

abbrev pub invariant-loop-i : goal.invariant-loop-i
invariant-loop-i g l =
    record {
      long : length l.written ≡ length g.L.Label.form.slots;
      bytes : l.self.bytes.now ≡ l.fn.self.bytes.now;
      spelled : Spelled g.L.Label.form l.fn.self.bytes.now l.place l.i l.written l.self.place;
    }

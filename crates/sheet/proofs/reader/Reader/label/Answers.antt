use Rattle.std.proofs.Common.{◌+◌, ◌<◌, length, set, ℤ, sym, ◌∙◌, subst, arith, length-set, w32, SFits, to_z, of_z, rules}
use Rattle.std.proofs.lemmas.Result.{err_from_is_err_and}
use Rattle.std.proofs.lemmas.Int.{to_z-of_z}
use Rattle.sheet.proofs.Slots.{nth_some}
use Rattle.sheet.proofs.Readings.{placed_ok, placed_err}
use Rattle.sheet.proofs.Spelled.{Spelled, spelled_more, spelled_fault, spelled_all, label_made, label_refused}
use Rattle.sheet.proofs.reader.Reader.label.Goals as goal

pub returns-in_err-number : goal.returns-in_err-number
returns-in_err-number g c =
    let F = g.L.Label.form in
    let i = c.loop-i.i in
    let p = err_from_is_err_and c.from_residual.result c.from_residual.ensures.1 in
    let inside : i < length F.slots = omega (arith, c.loop-i.invariant.long, c.loop-i-test.true) in
    let s = nth_some F.slots i inside in
    rw (p.1, p.2) (record { bytes = (c.label_number.ensures s.0 s.1).bytes ∙ c.loop-i.invariant.bytes; told = spelled_fault F c.args.self.now.bytes.now c.args.self.now.place i c.loop-i.written c.loop-i.self.place s.0 inside s.1 c.loop-i.invariant.spelled (rw c.loop-i.invariant.bytes at (c.in_err-number.ensures s.0 s.1).told) })

pub loop-i-preserved : goal.loop-i-preserved
loop-i-preserved g c =
    let F = g.L.Label.form in
    let bs = c.args.self.now.bytes.now in
    let i = c.loop-i.i in
    let xs = c.loop-i.written in
    let held : i < length xs = omega (arith, c.loop-i.invariant.long, c.loop-i-test.true) in
    let s = nth_some F.slots i (omega (arith, c.loop-i.invariant.long)) in
    let n = c.in_ok-number.field-0 in
    let f : SFits w32 n = search rules in
    let next = c.label_number.new.self.place in
    record {
      long = length-set xs i (to_z w32 (of_z w32 n)) ∙ c.loop-i.invariant.long;
      bytes = (c.label_number.ensures s.0 s.1).bytes ∙ c.loop-i.invariant.bytes;
      spelled = subst (λ (x : ℤ). Spelled F bs c.args.self.now.place (i + 1) (set xs i x) next) (sym (to_z-of_z w32 n f))
          (spelled_more F bs c.args.self.now.place i xs c.loop-i.self.place s.0 n next held s.1 c.loop-i.invariant.spelled (rw c.loop-i.invariant.bytes at (c.in_ok-number.ensures s.0 s.1).told));
    }

pub returns-in_err-label : goal.returns-in_err-label
returns-in_err-label g c =
    let F = g.L.Label.form in
    let bs = c.args.self.now.bytes.now in
    let place = c.args.self.now.place in
    let xs = c.loop-i.written in
    let p = err_from_is_err_and c.from_residual-in_err-label.result c.from_residual-in_err-label.ensures.1 in
    let q = placed_err place c.read.result c.in_err-label.field-0.0 c.in_err-label.ensures in
    let out = spelled_all F bs place c.loop-i.i xs c.loop-i.self.place c.loop-i.invariant.long (omega arith) c.loop-i.invariant.spelled in
    rw (p.1, p.2, q.2) (record { bytes = c.loop-i.invariant.bytes; told = label_refused F bs place g.L.Label.stands xs c.loop-i.self.place out q.0 (rw q.1 at c.read.ensures) })

pub returns : goal.returns
returns g c =
    let F = g.L.Label.form in
    let bs = c.args.self.now.bytes.now in
    let place = c.args.self.now.place in
    let xs = c.loop-i.written in
    let q = placed_ok place c.read.result c.in_ok-label.label c.in_ok-label.ensures in
    let out = spelled_all F bs place c.loop-i.i xs c.loop-i.self.place c.loop-i.invariant.long (omega arith) c.loop-i.invariant.spelled in
    record { bytes = c.loop-i.invariant.bytes; told = label_made F bs place g.L.Label.stands xs c.loop-i.self.place out c.in_ok-label.label (rw q at c.read.ensures) }

use Rattle.std.proofs.Common.{[], refl, ◌∙◌, arith}
use Rattle.std.proofs.lemmas.Result.{err_from_is_err_and}
use Rattle.sheet.specs.Faults as faults
use Rattle.sheet.proofs.Progress.{underway_none, underway_more, underway_refused, underway_left}
use Rattle.sheet.proofs.reading.read.Goals as goal

pub returns-in_err-draft : goal.returns-in_err-draft
returns-in_err-draft g c =
    let p = err_from_is_err_and c.from_residual.result c.from_residual.ensures.1 in
    rw (p.1, p.2) (record { lines = []; fault = faults.heading _ (rw c.new-reader.ensures.bytes at c.in_err-draft.ensures.told); kept = refl; long = refl; past = refl })

pub loop-i-init : goal.loop-i-init
loop-i-init g c =
    record {
      bytes = c.heading.ensures.bytes ∙ c.new-reader.ensures.bytes;
      underway = underway_none g.K.Label.group g.K.Label.form g.K.Label.stands g.K.SheetKind.KIND c.args.bytes.now c.args.list.now c.in_ok-draft.field-0 c.heading.new.self.place (rw c.new-reader.ensures.bytes at c.in_ok-draft.ensures.told);
    }

pub returns-in_err-draw_line : goal.returns-in_err-draw_line
returns-in_err-draw_line g c =
    let p = err_from_is_err_and c.from_residual-in_err-draw_line.result c.from_residual-in_err-draw_line.ensures.1 in
    let told = rw c.loop-i.invariant.bytes at c.in_err-draw_line.ensures.told in
    rw (p.1, p.2, told.2)
    (underway_refused g.K.Label.group g.K.Label.form g.K.Label.stands g.K.SheetKind.KIND c.args.bytes.now c.args.list.now c.in_ok-draft.field-0.lines c.loop-i.draft c.loop-i.list c.loop-i._i c.loop-i.reader.place c.loop-i.invariant.underway c.loop-i-test.true told.0)

pub loop-i-preserved : goal.loop-i-preserved
loop-i-preserved g c =
    record {
      bytes = c.draw_line.ensures.bytes ∙ c.loop-i.invariant.bytes;
      underway = underway_more g.K.Label.group g.K.Label.form g.K.Label.stands g.K.SheetKind.KIND c.args.bytes.now c.args.list.now c.in_ok-draft.field-0.lines c.loop-i.draft c.draw_line.new.draft c.loop-i.list c.draw_line.new.list c.loop-i._i c.loop-i.reader.place c.draw_line.new.self.place c.loop-i.invariant.underway
          (rw c.loop-i.invariant.bytes at c.in_ok-draw_line.ensures.told);
    }

pub returns-in_err-end : goal.returns-in_err-end
returns-in_err-end g c =
    let p = err_from_is_err_and c.from_residual-in_err-end.result c.from_residual-in_err-end.ensures.1 in
    let told = rw c.loop-i.invariant.bytes at c.in_err-end.ensures in
    rw (p.1, p.2, told.1)
    (underway_left g.K.Label.group g.K.Label.form g.K.Label.stands g.K.SheetKind.KIND c.args.bytes.now c.args.list.now c.in_ok-draft.field-0.lines c.loop-i.draft c.loop-i.list c.loop-i._i c.loop-i.reader.place c.loop-i.invariant.underway (omega arith) told.0)

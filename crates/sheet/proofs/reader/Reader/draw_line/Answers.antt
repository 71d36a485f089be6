use Rattle.std.proofs.Common.{refl}
use Rattle.std.proofs.lemmas.Result.{err_from_is_err_and}
use Rattle.sheet.specs.Reading as reading
use Rattle.sheet.proofs.Readings.{placed_ok, placed_err}
use Rattle.sheet.proofs.reader.Reader.draw_line.Goals as goal

pub returns-in_err-line : goal.returns-in_err-line
returns-in_err-line g c =
    let p = err_from_is_err_and c.from_residual.result c.from_residual.ensures.1 in
    rw (p.1, p.2) (record { bytes = c.line.ensures.bytes; told = (reading.unread_line _ c.in_err-line.ensures.told, refl, refl) })

pub returns-in_err-at_place : goal.returns-in_err-at_place
returns-in_err-at_place g c =
    let p = err_from_is_err_and c.from_residual-in_err-at_place.result c.from_residual-in_err-at_place.ensures.1 in
    let q = placed_err c.args.self.now.place c.line-2.result c.in_err-at_place.field-0.0 c.in_err-at_place.ensures in
    let told = rw q.1 at c.line-2.ensures in
    rw (p.1, p.2, q.2) (record { bytes = c.line.ensures.bytes; told = (reading.refused_line c.in_ok-line.line _ q.0 c.in_ok-line.ensures.told told.0, told.1.0, told.1.1) })

pub returns : goal.returns
returns g c =
    let q = placed_ok c.args.self.now.place c.line-2.result c.in_ok-at_place.field-0 c.in_ok-at_place.ensures in
    let told = rw q at c.line-2.ensures in
    record { bytes = c.line.ensures.bytes; told = record { line = c.in_ok-line.line; at = c.in_ok-line.ensures.told; drawn = told.1 } }

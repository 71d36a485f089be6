use Rattle.std.proofs.Common.{sym}
use Rattle.sheet.proofs.Slots.{nth_within, storable_at}
use Rattle.sheet.proofs.reader.Reader.label_number.Goals as goal

pub slot_number-requires : goal.slot_number-requires
slot_number-requires g c = storable_at g.L.Label.form.slots c.args.index c.in-Some.slot g.L.Label.form.stored (sym c.in-Some.ensures)

pub unreachable-requires : goal.unreachable-requires
unreachable-requires g c = nth_within g.L.Label.form.slots c.args.index c.requires (sym c.in-None.ensures)

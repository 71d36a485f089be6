use Rattle.std.proofs.Common.{Ok, Err, refl}
use Rattle.growth.specs.Entry.{about}
use Rattle.survey.specs.Found.{junction_of}
use Rattle.survey.proofs.Adds.{stepped_there, stepped_new}
use Rattle.survey.proofs.Fronts.{ask_front}
use Rattle.survey.proofs.shelling.Shelling.note.Goals as goal

pub returns-in-Ok : goal.returns-in-Ok
returns-in-Ok g c =
    let s = c.args.self.now in
    let told = ask_front g.L.Label.order g.L.Label.stands s.used s.pool.now (about s.centre (junction_of g.L.Label.stands c.args.junction)) s.in_room s.centre s.homed (Ok c.in-Ok.field-0) c.in-Ok.ensures in
    stepped_there g.L.Label.order g.L.Label.stands s _ c.args.junction refl refl refl refl refl c.in-Ok.field-0 told.0 told.1

pub returns-in-Err : goal.returns-in-Err
returns-in-Err g c =
    let s = c.args.self.now in
    let told = ask_front g.L.Label.order g.L.Label.stands s.used s.pool.now (about s.centre (junction_of g.L.Label.stands c.args.junction)) s.in_room s.centre s.homed (Err c.in-Err.place) c.in-Err.ensures in
    let w = stepped_new g.L.Label.order g.L.Label.stands _ c.add.new.self c.args.junction c.in-Err.place told c.add.result c.add.ensures in
    record {
      steady = record { centre = w.steady.centre; distance = w.steady.distance; long = w.steady.long; same = w.steady.same };
      more = w.more;
      kept = w.kept;
      enlarged = w.enlarged;
    }

use Rattle.std.proofs.Common.{length}
use Rattle.growth.specs.Entry.{about}
use Rattle.survey.specs.Found.{junction_of}
use Rattle.survey.specs.Searching.{begins, goes}
use Rattle.survey.proofs.Searches.{go_on, stopped_there}
use Rattle.survey.proofs.found.ask.Goals as goal

pub loop-next-init : goal.loop-next-init
loop-next-init g c = (c.requires, begins, λ k h d. d)

pub loop-next-preserved : goal.loop-next-preserved
loop-next-preserved g c =
    let x = about c.args.centre (junction_of g.L.Label.stands c.args.junction) in
    let t = c.in-On.ensures in
    (t.2, goes c.loop-next.invariant.1 t.0, λ k h d. go_on g.L.Label.order g.L.Label.stands (length c.args.records.now) c.args.records.now x c.loop-next.at c.in-On.next k t.0 h (c.loop-next.invariant.2 k h d))

pub returns-in-Stop : goal.returns-in-Stop
returns-in-Stop g c =
    let x = about c.args.centre (junction_of g.L.Label.stands c.args.junction) in
    let t = c.in-Stop.ensures in
    record {
      inside = c.loop-next.invariant.0;
      comes = c.loop-next.invariant.1;
      stops = t;
      nowhere = λ k h d. stopped_there g.L.Label.order g.L.Label.stands (length c.args.records.now) c.args.records.now x c.loop-next.at c.in-Stop.side k t h (c.loop-next.invariant.2 k h d);
    }

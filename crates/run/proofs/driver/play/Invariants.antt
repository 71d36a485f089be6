use Rattle.std.proofs.Common.{take}
use Rattle.run.specs.Played.{PlayClause}
use Rattle.run.proofs.driver.play.Given as goal

abbrev pub invariant-loop-call : goal.invariant-loop-call
invariant-loop-call g l =
    PlayClause g.L.Label.group g.L.Label.order g.L.Label.stands l.initial.state (take l.call-index l.calls) l.initial.list l.initial.pool l.state l.list l.pool

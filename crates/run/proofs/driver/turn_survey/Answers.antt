use Rattle.std.proofs.Common.{Ok, Err}
use Rattle.run.proofs.Turns.{grow_turn, reopen_turn}
use Rattle.run.proofs.driver.turn_survey.Goals as goal

pub returns-in-Grow : goal.returns-in-Grow
returns-in-Grow g c =
    rw c.in-Grow.is (grow_turn g.L.Label.group g.L.Label.order g.L.Label.stands c.args.list.now c.args.pool.now c.args.survey c.grow.new.self c.grow.new.pool c.grow.result c.grow.ensures)

pub returns-in-Ok : goal.returns-in-Ok
returns-in-Ok g c =
    rw c.in-Reopen.is (reopen_turn g.L.Label.group g.L.Label.order g.L.Label.stands c.args.list.now c.args.pool.now c.args.survey (Ok c.in-Ok.draft) c.in-Ok.ensures)

pub returns-in-Err : goal.returns-in-Err
returns-in-Err g c =
    rw c.in-Reopen.is (reopen_turn g.L.Label.group g.L.Label.order g.L.Label.stands c.args.list.now c.args.pool.now c.args.survey (Err (c.in-Err.field-0-0, c.in-Err.refused)) c.in-Err.ensures)

use Rattle.std.proofs.Common.{Ok, Err}
use Rattle.run.proofs.Turns.{line_turn, back_turn, seal_turn}
use Rattle.run.proofs.driver.turn_draft.Goals as goal

pub returns-in-Line : goal.returns-in-Line
returns-in-Line g c =
    rw c.in-Line.is (line_turn g.L.Label.group g.L.Label.order g.L.Label.stands c.args.list.now c.args.pool.now c.args.draft c.line.new.self c.line.new.list c.in-Line.line c.line.result c.line.ensures)

pub returns-in-TakeBack : goal.returns-in-TakeBack
returns-in-TakeBack g c =
    rw c.in-TakeBack.is (back_turn g.L.Label.group g.L.Label.order g.L.Label.stands c.args.list.now c.args.pool.now c.args.draft c.take_back.new.self c.take_back.result c.take_back.ensures)

pub returns-in-Ok : goal.returns-in-Ok
returns-in-Ok g c =
    rw c.in-Seal.is (seal_turn g.L.Label.group g.L.Label.order g.L.Label.stands c.args.list.now c.args.pool.now c.args.draft c.seal.new.pool (Ok c.in-Ok.survey) c.in-Ok.ensures)

pub returns-in-Err : goal.returns-in-Err
returns-in-Err g c =
    rw c.in-Seal.is (seal_turn g.L.Label.group g.L.Label.order g.L.Label.stands c.args.list.now c.args.pool.now c.args.draft c.seal.new.pool (Err (c.in-Err.field-0-0, c.in-Err.refused)) c.in-Err.ensures)

use Rattle.std.proofs.lemmas.Result.{err_from_is_err_and}
use Rattle.net.specs.Model.{line_of}
use Rattle.survey.proofs.Ports.{line_joined, line_short}
use Rattle.survey.proofs.shelling.Shelling.note_line.Goals as goal

pub returns-in_err-note_ahead : goal.returns-in_err-note_ahead
returns-in_err-note_ahead g c =
    let p = err_from_is_err_and c.from_residual.result c.from_residual.ensures.1 in
    rw p.1
    (line_short g.L.Label.group g.L.Label.order g.L.Label.stands (g.L.Label.stands c.args.from.label) c.args.from.node c.args.self.now c.note_ahead.new.self c.note_ahead.new.self
    (line_of g.L.Label.stands c.args.line) p.0 c.in_err-note_ahead.ensures)

pub returns : goal.returns
returns g c =
    line_joined g.L.Label.group g.L.Label.order g.L.Label.stands (g.L.Label.stands c.args.from.label) c.args.from.node c.args.self.now c.note_ahead.new.self c.note_ahead-2.new.self
    (line_of g.L.Label.stands c.args.line) (line_of g.L.Label.stands c.reversed.result) c.reversed.ensures c.note_ahead-2.result c.in_ok-note_ahead.ensures c.note_ahead-2.ensures

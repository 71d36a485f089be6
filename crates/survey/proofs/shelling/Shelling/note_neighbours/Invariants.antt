use Rattle.std.proofs.Common.{map, take, Ok}
use Rattle.mesh.specs.Ports.{ports_of}
use Rattle.net.specs.Model.{line_of}
use Rattle.survey.specs.Leading.{led}
use Rattle.survey.specs.Stepping.{Stepped}
use Rattle.survey.proofs.shelling.Shelling.note_neighbours.Given as goal

abbrev pub invariant-loop-line : goal.invariant-loop-line
invariant-loop-line g l =
    Stepped g.L.Label.order g.L.Label.stands l.initial.self (led g.L.Label.group l.initial.self.centre (g.L.Label.stands l.from.label) (ports_of g.L.Label.group l.from.node (map (line_of g.L.Label.stands) (take l.line-index l.lines)))) (Ok tt) l.self

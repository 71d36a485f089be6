use Rattle.std.proofs.Common.{◌≡◌, ℕ, ◌≤◌, map, Ok}
use Rattle.std.specs.List.{between}
use Rattle.net.specs.Model.{line_of}
use Rattle.growth.specs.Entry.{junctions}
use Rattle.growth.specs.Surveyed.{targets}
use Rattle.survey.specs.Stepping.{held, Stepped}
use Rattle.survey.proofs.shelling.Shelling.note_shell.Given as goal

abbrev pub invariant-loop-at : goal.invariant-loop-at
invariant-loop-at g l =
    (l.at-iterator.end ≡ l.fn.shell.end)
    × (l.fn.shell.start ≤ l.at-iterator.start)
    × (l.at-iterator.start ≤ l.at-iterator.end)
    × ((nodes : ℕ) → Stepped g.L.Label.order g.L.Label.stands l.initial.self (targets g.L.Label.group (record { nodes = nodes; lines = map (line_of g.L.Label.stands) l.lines }) l.initial.self.centre (junctions (between l.fn.shell.start l.at-iterator.start (held g.L.Label.order g.L.Label.stands l.initial.self)))) (Ok tt) l.self)

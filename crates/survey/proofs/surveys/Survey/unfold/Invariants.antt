use Rattle.survey.specs.Unfolding.{Unfolded}
use Rattle.survey.proofs.surveys.Survey.unfold.Given as goal

abbrev pub invariant-loop-centre : goal.invariant-loop-centre
invariant-loop-centre g l = Unfolded g.L.Label.group g.L.Label.order g.L.Label.stands l.self l.list l.initial.pool l.centre (record { used = l.used; marks = l.marks }) l.pool

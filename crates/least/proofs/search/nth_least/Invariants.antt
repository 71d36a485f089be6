use Rattle.least.specs.Nth.{Nth}
use Rattle.least.proofs.search.nth_least.Given as goal

abbrev pub invariant-loop : goal.invariant-loop
invariant-loop g l = Nth g.T.Ranked.order g.T.Ranked.rank l.entries l.counter l.least

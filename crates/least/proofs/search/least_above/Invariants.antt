use Rattle.std.proofs.Common.{take}
use Rattle.least.specs.Least.{LeastClause}
use Rattle.least.proofs.search.least_above.Given as goal

abbrev pub invariant-loop-entry : goal.invariant-loop-entry
invariant-loop-entry g l = LeastClause g.T.Ranked.order g.T.Ranked.rank (take l.entry-index l.entries) l.floor l.least

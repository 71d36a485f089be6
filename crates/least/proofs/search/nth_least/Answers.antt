use Rattle.std.proofs.Common.{arith}
use Rattle.least.proofs.Rounds.{last}
use Rattle.least.proofs.search.nth_least.Goals as goal

pub returns-in_err-least-2 : goal.returns-in_err-least-2
returns-in_err-least-2 g c =
    rw c.from_residual-in_err-least-2.ensures
    (last g.T.Ranked.order g.T.Ranked.rank c.args.entries.now c.loop.counter c.loop.least c.loop.invariant c.args.i (omega arith) c.in_err-least-2.ensures)

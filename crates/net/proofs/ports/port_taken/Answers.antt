use Rattle.std.proofs.Common.{tests, rules}
use Rattle.std.proofs.lemmas.Iterator.{cases_from_any, YieldsList-from_slice}
use Rattle.mesh.specs.Ports.{ahead}
use Rattle.net.specs.Model.{line_of}
use Rattle.net.proofs.Steps.{Gives, given_or_none}
use Rattle.net.proofs.ports.port_taken.Goals as goal

pub returns : goal.returns
returns g c =
    let p = ahead (line_of g.L.Label.stands c.args.line) in
    let by_call = cases_from_any _ _ _ (Gives g.L.Label.stands g.L.Label.group c.args.line.tail p) (λ x. Gives g.L.Label.stands g.L.Label.group c.args.line.tail p x → ⊥) c.any.ensures.ran (YieldsList-from_slice c.args.lines.now cc) (λ x q k. search (rules, tests)) (λ x q k. search (rules, tests)) in
    given_or_none g.L.Label.stands g.L.Label.group c.args.line.tail p _ c.args.lines.now by_call

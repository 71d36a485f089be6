use Rattle.std.proofs.Common.{◌++◌, length}
use Rattle.std.proofs.lemmas.Result.{err_from_is_err_and}
use Rattle.net.specs.Rules.{LineBreaks, list_rules, node_rules, loop_rules, port_rules}
use Rattle.net.specs.Model.{line_of, net_of}
use Rattle.net.specs.Verdict.{here}
use Rattle.net.proofs.Verdicts.{first_left, first_right, settled_right}
use Rattle.net.proofs.drafts.Draft.allows.Goals as goal

pub returns-in_err-lines-clause-verdict : goal.returns-in_err-lines-clause-verdict
returns-in_err-lines-clause-verdict g c =
    let p = err_from_is_err_and c.from_residual.result c.from_residual.ensures.1 in
    rw (p.1, p.2, c.in_err-lines.ensures.0) (here c.in_err-lines.ensures.1, tt)

pub returns-in_err-has_place-clause-verdict : goal.returns-in_err-has_place-clause-verdict
returns-in_err-has_place-clause-verdict g c =
    let p = err_from_is_err_and c.from_residual-in_err-has_place.result c.from_residual-in_err-has_place.ensures.1 in
    let own = c.in_ok-lines.ensures.0 in
    rw (p.1, p.2) (first_right _ list_rules (λ ne. ne own, tt) (first_left _ (loop_rules ++ port_rules) (c.in_err-has_place.ensures c.args.list.now own).0), tt)

pub returns-in_err-loop_allowed-clause-verdict : goal.returns-in_err-loop_allowed-clause-verdict
returns-in_err-loop_allowed-clause-verdict g c =
    let p = err_from_is_err_and c.from_residual-in_err-loop_allowed.result c.from_residual-in_err-loop_allowed.ensures.1 in
    let d = c.args.self.now in
    let list = c.args.list.now in
    let net = net_of g.L.Label.stands d list in
    let own = c.in_ok-lines.ensures.0 in
    rw (p.1, p.2) (first_right _ list_rules (λ ne. ne own, tt) (first_right _ node_rules (c.in_ok-has_place.ensures list own).0 (first_left _ port_rules (c.in_err-loop_allowed.ensures net d.room (length list)).0)), tt)

pub returns-clause-verdict : goal.returns-clause-verdict
returns-clause-verdict g c =
    let d = c.args.self.now in
    let list = c.args.list.now in
    let net = net_of g.L.Label.stands d list in
    let own = c.in_ok-lines.ensures.0 in
    let B = LineBreaks g.L.Label.group net d.room (length list) (line_of g.L.Label.stands c.args.line) in
    let ports = rw c.in_ok-lines.ensures.1 at c.ports_allowed.ensures d.nodes d.room (length list) in
    settled_right B list_rules (node_rules ++ (loop_rules ++ port_rules)) (λ _. Unit {0}) (Unit {0}) c.ports_allowed.result (λ ne. ne own, tt)
    (settled_right B node_rules (loop_rules ++ port_rules) (λ _. Unit {0}) (Unit {0}) c.ports_allowed.result (c.in_ok-has_place.ensures list own).0
    (settled_right B loop_rules port_rules (λ _. Unit {0}) (Unit {0}) c.ports_allowed.result (c.in_ok-loop_allowed.ensures net d.room (length list)).0 ports))

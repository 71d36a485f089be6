use Rattle.std.proofs.Common.{suc, ◌<◌, ◌≤◌, ◌∙◌, arith}
use Rattle.std.proofs.lemmas.Result.{err_from_is_err_and}
use Rattle.net.specs.Verdict.{here, later}
use Rattle.survey.proofs.Tested.{lent_known}
use Rattle.survey.proofs.surveys.Survey.span.Goals as goal

pub returns-in_err-check_lent : goal.returns-in_err-check_lent
returns-in_err-check_lent g c =
    let p = err_from_is_err_and c.from_residual.result c.from_residual.ensures.1 in
    rw (p.1, p.2 ∙ c.in_err-check_lent.ensures.0) (here c.in_err-check_lent.ensures.1, tt)

pub returns-in_err-check_node : goal.returns-in_err-check_node
returns-in_err-check_node g c =
    let own = lent_known c.args.self.now _ _ c.in_ok-check_lent.ensures in
    let p = err_from_is_err_and c.from_residual-in_err-check_node.result c.from_residual-in_err-check_node.ensures.1 in
    rw (p.1, p.2 ∙ c.in_err-check_node.ensures.0) (later own (here c.in_err-check_node.ensures.1), tt)

pub returns-then-k-self : goal.returns-then-k-self
returns-then-k-self g c =
    let own = lent_known c.args.self.now _ _ c.in_ok-check_lent.ensures in
    let is_node : c.args.v < c.args.self.now.draft.nodes = c.in_ok-check_node.ensures in
    let node : c.args.self.now.draft.nodes ≤ c.args.v → ⊥ = λ h. let z : ⊥ = omega arith in z in
    (later own (later node (here c.if-k-self.true)), tt)

pub returns : goal.returns
returns g c =
    let s = c.args.self.now in
    let own = lent_known s _ _ c.in_ok-check_lent.ensures in
    let node : c.args.v < s.draft.nodes = c.in_ok-check_node.ensures in
    let lent = c.in_ok-check_lent.ensures in
    let within = s.inside c.args.k (suc c.args.v) (omega arith) (omega arith) in
    let up = s.ascend c.args.k c.args.v (omega arith) (omega arith) in
    let begins = c.shell.ensures.begins in
    let ends = c.shell.ensures.ends in (
      (own, ((λ h. let z : ⊥ = omega arith in z), ((λ h. let z : ⊥ = omega arith in z), tt))),
      record {
        node = node;
        near = c.if-k-self.false;
        begins = begins;
        ends = ends;
        ordered = omega arith;
        in_use = omega arith;
        inside = omega arith;
      },
    )

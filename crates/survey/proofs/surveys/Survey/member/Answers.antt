use Rattle.std.proofs.Common.{◌≤◌, arith}
use Rattle.std.proofs.lemmas.List.Edits.{length-between}
use Rattle.net.specs.Verdict.{here, later}
use Rattle.survey.specs.Owns.{size_of}
use Rattle.survey.proofs.Answers.{span_size, member_told, first_member}
use Rattle.survey.proofs.Tested.{refused}
use Rattle.survey.proofs.surveys.Survey.member.Goals as goal

pub returns-in_err-span : goal.returns-in_err-span
returns-in_err-span g c = refused _ _ _ _ c.from_residual.result c.in_err-span.field-0.0 c.from_residual.ensures.1 (first_member c.args.self.now _ _ c.args.v c.args.k c.args.i _ c.in_err-span.ensures.0) tt

pub returns-then-i-shell : goal.returns-then-i-shell
returns-then-i-shell g c =
    let t = c.in_ok-span.ensures in
    let size = span_size g.L.Label.group g.L.Label.order g.L.Label.stands c.args.self.now c.args.list.now c.args.pool.now c.args.v c.args.k c.in_ok-span.span t.1 in
    let long = length-between c.args.pool.now c.in_ok-span.span.start c.in_ok-span.span.end t.1.inside in
    let past : size_of c.args.self.now c.args.v c.args.k ≤ c.args.i = omega arith in
    (later t.0.0 (later t.0.1.0 (later t.0.1.1.0 (here past))), tt)

pub returns : goal.returns
returns g c =
    let t = c.in_ok-span.ensures in
    let size = span_size g.L.Label.group g.L.Label.order g.L.Label.stands c.args.self.now c.args.list.now c.args.pool.now c.args.v c.args.k c.in_ok-span.span t.1 in
    let long = length-between c.args.pool.now c.in_ok-span.span.start c.in_ok-span.span.end t.1.inside in
    ((t.0.0, (t.0.1.0, (t.0.1.1.0, ((λ h. let z : ⊥ = omega arith in z), tt)))), λ o. member_told g.L.Label.group g.L.Label.order g.L.Label.stands c.args.self.now c.args.list.now c.args.pool.now c.args.v c.args.k c.in_ok-span.span t.1 c.args.i c.nth_least.result c.index-shell-0.result c.unwrap_or-member.result c.nth_least.ensures (omega arith) c.unwrap_or-member.ensures o)

use Rattle.std.proofs.Common.{◌≡◌, Some, None, MatchOption, subst, rules}
use Rattle.net.specs.Model.{net_of}
use Rattle.survey.specs.Clauses.{Next}
use Rattle.survey.specs.declared.records.Record.{Record}
use Rattle.survey.proofs.Answers.{rank, mapped, next_told}
use Rattle.survey.proofs.Tested.{refused}
use Rattle.survey.proofs.surveys.Survey.next_member.Goals as goal

pub returns-in_err-span : goal.returns-in_err-span
returns-in_err-span g c = refused _ _ _ _ c.from_residual.result c.in_err-span.field-0.0 c.from_residual.ensures.1 c.in_err-span.ensures.0 tt

pub returns : goal.returns
returns g c =
    let t = c.in_ok-span.ensures in
    let told : MatchOption c.least_above-member.result (c.map.result ≡ None) (λ m. c.map.result ≡ Some m.junction) = mapped c.least_above-member.result c.map.result _ c.map.ensures.cases (λ m j q. search rules) in (
      t.0,
      λ o.
          subst (λ (r : Record g.row.L.Denot). Next g.L.Label.group g.L.Label.order g.L.Label.stands (net_of g.L.Label.stands c.args.self.now.draft c.args.list.now) c.args.v c.args.k (rank g.L.Label.stands r) c.map.result) c.unlinked-after.ensures
          (next_told g.L.Label.group g.L.Label.order g.L.Label.stands c.args.self.now c.args.list.now c.args.pool.now c.args.v c.args.k c.in_ok-span.span t.1 c.unlinked-after.result c.least_above-member.result c.map.result c.least_above-member.ensures told o),
    )

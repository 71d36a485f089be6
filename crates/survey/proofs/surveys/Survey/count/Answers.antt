use Rattle.std.proofs.Common.{◌≡◌, ◌-◌, rules}
use Rattle.survey.proofs.Answers.{span_size, span_count}
use Rattle.survey.proofs.Tested.{refused}
use Rattle.survey.proofs.surveys.Survey.count.Goals as goal

pub returns-in_err-span : goal.returns-in_err-span
returns-in_err-span g c = refused _ _ _ _ c.from_residual.result c.in_err-span.field-0.0 c.from_residual.ensures.1 c.in_err-span.ensures.0 tt

pub returns : goal.returns
returns g c =
    let s = c.args.self.now in
    let t = c.in_ok-span.ensures in
    let long : c.len.result ≡ c.in_ok-span.span.end - c.in_ok-span.span.start = search rules in
    rw long (
      t.0,
      (
        span_size g.L.Label.group g.L.Label.order g.L.Label.stands s c.args.list.now c.args.pool.now c.args.v c.args.k c.in_ok-span.span t.1,
        span_count g.L.Label.group g.L.Label.order g.L.Label.stands s c.args.list.now c.args.pool.now c.args.v c.args.k c.in_ok-span.span t.1,
      ),
    )

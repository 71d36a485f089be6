use Rattle.std.proofs.Common.{false, length, sym, refl, subst}
use Rattle.net.specs.Verdict.{First, here}
use Rattle.survey.specs.Rules.{GrowBreaks, reopen_rules}
use Rattle.survey.specs.declared.refusals.SurveyRefusal.{SurveyRefusal}
use Rattle.survey.proofs.surveys.Survey.reopen.Goals as goal

pub returns-in-Err : goal.returns-in-Err
returns-in-Err g c = (
  subst (λ (e : SurveyRefusal). First (GrowBreaks c.args.self (length c.args.list.now) (length c.args.pool.now) false) e reopen_rules) (sym c.in-Err.ensures.0) (here c.in-Err.ensures.1),
  refl,
)

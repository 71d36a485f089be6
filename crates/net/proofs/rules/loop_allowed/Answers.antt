use Rattle.std.proofs.Common.{sym, refl, ◌∙◌}
use Rattle.std.proofs.lemmas.Bool.Decides.{not_from_Decides}
use Rattle.net.specs.Verdict.{here, later}
use Rattle.net.proofs.rules.loop_allowed.Goals as goal

pub returns-then-same : goal.returns-then-same
returns-then-same g c = λ net room lent. (here (c.if-line.true, c.if-same.ensures.0 refl ∙ c.identity.ensures), tt)

pub returns-then-same-2 : goal.returns-then-same-2
returns-then-same-2 g c =
    λ net room lent. (later (λ one. not_from_Decides _ c.if-same.ensures refl (one.1 ∙ sym c.identity.ensures)) (here (c.if-line.true, c.if-same-2.ensures.0 refl ∙ c.inverse.ensures)), tt)

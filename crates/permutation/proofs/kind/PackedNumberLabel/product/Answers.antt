use Rattle.std.proofs.Common.{ap, ◌∙◌}
use Rattle.symmetric.specs.Images.{Perm}
use Rattle.permutation.specs.Permutations.{mul, perm_packed}
use Rattle.permutation.specs.Standing.{perm}
use Rattle.permutation.proofs.kind.PackedNumberLabel.product.Goals as goal

pub returns : goal.returns
returns c =
    c.into.ensures.0 ∙ c.then.ensures ∙ ap (λ (p : Perm). mul p (perm c.from-second.result)) c.from-first.ensures
    ∙ ap (mul (perm_packed c.args.self.0)) c.from-second.ensures

use Rattle.std.proofs.Common.{ap, ◌∙◌}
use Rattle.symmetric.specs.Images.{Perm}
use Rattle.permutation.specs.Permutations.{perm_order, perm_packed}
use Rattle.permutation.specs.Standing.{perm}
use Rattle.permutation.proofs.kind.PackedNumberLabel.compare.Goals as goal

pub returns : goal.returns
returns c =
    c.compare.ensures ∙ ap (λ (p : Perm). perm_order.cmp p (perm c.from-2.result)) c.from.ensures
    ∙ ap (perm_order.cmp (perm_packed c.args.self.0)) c.from-2.ensures

use Rattle.std.proofs.Common.{ℕ, List, ap, ◌∙◌}
use Rattle.symmetric.specs.Images.{followed}
use Rattle.symmetric.proofs.Laws.{perm_same}
use Rattle.permutation.specs.Standing.{perm}
use Rattle.permutation.proofs.packed.PackedPermutation.then.Goals as goal

pub returns : goal.returns
returns c =
    perm_same _ _ (c.with_images.ensures ∙ c.composed.ensures.0 ∙ ap (λ (xs : List ℕ). followed xs c.images-2.result) c.images.ensures.0
    ∙ ap (followed (perm c.args.self).0) c.images-2.ensures.0)

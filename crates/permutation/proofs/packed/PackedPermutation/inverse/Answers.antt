use Rattle.std.proofs.Common.{ap, ◌∙◌}
use Rattle.symmetric.specs.Images.{undone}
use Rattle.symmetric.proofs.Laws.{perm_same}
use Rattle.permutation.proofs.packed.PackedPermutation.inverse.Goals as goal

pub returns : goal.returns
returns c = perm_same _ _ (c.with_images.ensures ∙ c.inverted.ensures.0 ∙ ap undone c.images.ensures.0)

use Rattle.std.proofs.Common.{refl}
use Rattle.symmetric.specs.Images.{each_once}
use Rattle.symmetric.proofs.Laws.{perm_same}
use Rattle.permutation.proofs.packed.PackedPermutation.identity.Goals as goal

pub invariant_of-result : goal.invariant_of-result
unfolding each_once
invariant_of-result c = record { ok = refl }

pub returns : goal.returns
returns c = perm_same _ _ refl

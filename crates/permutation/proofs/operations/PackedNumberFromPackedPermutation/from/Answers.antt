use Rattle.std.proofs.Common.{refl}
use Rattle.symmetric.proofs.Laws.{perm_same}
use Rattle.symmetric.proofs.Packed.{chosen_packed}
use Rattle.permutation.proofs.operations.PackedNumberFromPackedPermutation.from.Goals as goal

pub returns : goal.returns
returns c = (perm_same _ _ (chosen_packed c.args.permutation.packed c.args.permutation.ok), refl)

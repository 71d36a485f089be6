-- The permutation that a checked packed number is. Assumes nothing.
use Rattle.symmetric.specs.Images.{Perm}
use Rattle.symmetric.specs.Packing.{digits}
use Rattle.symmetric.proofs.Packed.{permutes_digits}
use Rattle.permutation.specs.declared.packed.PackedPermutation.{PackedPermutation}

abbrev pub perm : PackedPermutation → Perm
perm p = (digits p.packed, permutes_digits p.packed p.ok)

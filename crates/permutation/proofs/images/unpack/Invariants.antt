use Rattle.std.proofs.Common.{◌≡◌, ◌-◌, ◌++◌, length, take}
use Rattle.symmetric.specs.Packing.{digits_of, digits}
use Rattle.permutation.proofs.images.unpack.Given as goal

abbrev pub invariant-loop-image : goal.invariant-loop-image
invariant-loop-image l =
    (length l.image-items ≡ 8) × (take l.image-index l.image-items ++ digits_of (8 - l.image-index) l.rest ≡ digits l.n)

-- The whole numbers as a group. Assumes nothing.
use Rattle.std.specs.Prelude.{ℤ, pos, ◌+ℤ◌, neg_ℤ}
use Rattle.std.proofs.Math.IntN.{+ℤ_idl, +ℤ_idr, +ℤ_assoc, +ℤ_invl, +ℤ_invr}
use Rattle.label.specs.Group.{Group}

-- the group of the whole numbers under addition, without bound
abbrev pub integers : Group ℤ
integers = record {
  one = pos 0;
  mul = ◌+ℤ◌;
  inv = neg_ℤ;
  left = +ℤ_idl;
  right = +ℤ_idr;
  assoc = +ℤ_assoc;
  undo = +ℤ_invl;
  undone = +ℤ_invr;
}

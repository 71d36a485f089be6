-- What the readings of two parts say of the pair. Assumes nothing.
use Rattle.std.specs.Prelude.{Ok, Err, Result}
use Rattle.label.specs.declared.pairs.Pair.{Pair}
use Rattle.label.specs.declared.refusals.LabelFault.{LabelFault}
use Rattle.label.specs.declared.refusals.LabelFault.TheVariants.{OutOfRange, NoPermutation}

-- a number out of range in either part comes before images that are no permutation in either
abbrev pub either_fault : LabelFault → LabelFault → LabelFault
either_fault OutOfRange e = OutOfRange
either_fault NoPermutation e = e

-- the pair of two labels that were read, or what is wrong with the numbers of either
abbrev pub joined_reading : {A B : Type 0} → Result A LabelFault → Result B LabelFault → Result (Pair A B) LabelFault
joined_reading (Ok a) (Ok b) = Ok (record { first = a; second = b })
joined_reading (Ok a) (Err e) = Err e
joined_reading (Err d) (Ok b) = Err d
joined_reading (Err d) (Err e) = Err (either_fault d e)

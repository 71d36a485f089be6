-- Translations by whole numbers, which do not wrap. Assumes nothing.
use Rattle.std.specs.Prelude.{ℤ}
use Rattle.label.specs.Group.{Group, pair_group}
use Rattle.cover.specs.Integers.{integers}

-- three whole numbers
abbrev pub Whole : Type 0
Whole = ℤ × (ℤ × ℤ)

-- the group of the translations by whole numbers, added one by one
abbrev pub whole : Group Whole
whole = pair_group integers (pair_group integers integers)

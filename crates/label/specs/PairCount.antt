-- How many numbers the written form of a pair has. Assumes nothing.
use Rattle.std.specs.Prelude.{ℕ, ◌+◌, Bool, cond, nat_le}

-- two counts of numbers are together at most 4,095
abbrev pub few_enough : ℕ → ℕ → Bool
few_enough a b = nat_le (a + b) 4095

-- as many as its parts have, or none where those are too many
abbrev pub pair_count : ℕ → ℕ → ℕ
pair_count a b = cond (few_enough a b) (a + b) 0

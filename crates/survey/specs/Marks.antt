-- The marks of a survey, a row for each radius. Assumes nothing.
use Rattle.std.specs.Prelude.{ℕ, List, [], slice_index, slice_index_or}

-- the mark where the shell k of the node v begins; it ends at the mark of the next node
abbrev pub mark_of : List (List ℕ) → ℕ → ℕ → ℕ
mark_of marks k v = slice_index (slice_index_or marks k []) v

-- Closed walks whose halves have no shortcut. Assumes nothing.
use Rattle.std.specs.Prelude.{ℕ, ◌+◌, ◌/◌, ◌%◌, ◌<◌, List, length, slice_index_or}
use Rattle.mesh.specs.Distance.{Distance}

-- any two junctions of the closed walk whose places are half its length apart, rounded down, are at that distance
abbrev pub Halves : {J : Type 0} → (J → J → Type 0) → List J → Type 0
Halves {J} Link c = (d : J) (i : ℕ) → i < length c → Distance Link (length c / 2) (slice_index_or c i d) (slice_index_or c ((i + length c / 2) % length c) d)

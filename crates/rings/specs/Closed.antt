-- Closed walks in any graph, as the lists of the junctions that they pass. Assumes nothing.
use Rattle.std.specs.Prelude.{ℕ, ◌≤◌, List, length, slice_index_or}
use Rattle.rings.specs.Ahead.{Next}

-- the list is a closed walk: at least three junctions, each linked to the next, and the last to the first
pub record Closed {J : Type 0} (Link : J → J → Type 0) (c : List J) : Type 0 where
  pub long : 3 ≤ length c
  pub linked : (d : J) (i j : ℕ) → Next (length c) i j → Link (slice_index_or c i d) (slice_index_or c j d)

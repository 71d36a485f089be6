-- Rings in any graph: cycles without a shortcut, the isometric cycles. Assumes nothing.
use Rattle.std.specs.Prelude.{ℕ, ◌-◌, ◌<◌, min, List, length, slice_index_or}
use Rattle.mesh.specs.Distance.{Distance}
use Rattle.rings.specs.Cycle.{Cycle}

-- the list is a ring: a cycle any two junctions of which are as far apart in the graph as the shorter way round the cycle from one to the other
pub record Ring {J : Type 0} (Link : J → J → Type 0) (c : List J) : Type 0 where
  pub cycle : Cycle Link c
  pub isometric : (d : J) (i j : ℕ) → i < j → j < length c → Distance Link (min (j - i) (length c - (j - i))) (slice_index_or c i d) (slice_index_or c j d)

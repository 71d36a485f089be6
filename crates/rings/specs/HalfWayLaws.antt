-- What is proved of halves: a closed walk is a ring exactly if its halves have no shortcut. Assumes nothing.
use Rattle.std.specs.Prelude.{List}
use Rattle.rings.specs.Closed.{Closed}
use Rattle.rings.specs.Ring.{Ring}
use Rattle.rings.specs.Halves.{Halves}

-- how rings are told from other closed walks by their halves
pub record HalfWayLaws {J : Type 0} (Link : J → J → Type 0) : Type 0 where
  -- a closed walk in which every two junctions half its length apart, rounded down, are at that distance is a ring
  pub enough : (c : List J) → Closed Link c → Halves Link c → Ring Link c
  -- and in a ring they are
  pub needed : (c : List J) → Ring Link c → Halves Link c

-- What is proved of a ring written in other ways. Assumes nothing.
use Rattle.std.specs.Prelude.{◌≡◌, ℕ, ◌≤◌, List, length}
use Rattle.rings.specs.Ring.{Ring}
use Rattle.rings.specs.SameRing.{SameRing}
use Rattle.rings.specs.Turned.{rotated, turned}

-- d is a ring of the same length as c, and the same ring
pub record Again {J : Type 0} (Link : J → J → Type 0) (c d : List J) : Type 0 where
  pub size : length d ≡ length c
  pub ring : Ring Link d
  pub same : SameRing d c

-- how a ring can be written otherwise
pub record TurnLaws {J : Type 0} (Link : J → J → Type 0) : Type 0 where
  -- begun at any of its places, it is the same ring
  pub rotation : (c : List J) (k : ℕ) → k ≤ length c → Ring Link c → Again Link c (rotated k c)
  -- the other way round, it is the same ring
  pub reversal : (c : List J) → Ring Link c → Again Link c (turned c)

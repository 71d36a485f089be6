-- Cycles in any graph. Assumes nothing.
use Rattle.std.specs.Prelude.{List}
use Rattle.mesh.specs.Exactly.{Distinct}
use Rattle.rings.specs.Closed.{Closed}

-- the list is a cycle: a closed walk that passes no junction twice
pub record Cycle {J : Type 0} (Link : J → J → Type 0) (c : List J) : Type 0 where
  pub closed : Closed Link c
  pub distinct : Distinct c

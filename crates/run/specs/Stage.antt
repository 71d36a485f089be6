-- What the calls have made of a net. Assumes nothing.
use Rattle.std.specs.Prelude.{ℕ}
use Rattle.mesh.specs.Net.{Net}

-- a net that is drawn, or a net that is surveyed up to a radius
pub data Stage (M : Type 0) : Type 0 where
  drawing : Net M → Stage M
  surveyed : Net M → ℕ → Stage M

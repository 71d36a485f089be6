-- Places on a round. Assumes nothing.
use Rattle.std.specs.Prelude.{◌≡◌, ℕ, ◌+◌, ◌<◌, ◌⊎◌}

-- on a round of L places, j is the place k after i: the count goes on from the last place to the first
pub record Ahead (L k i j : ℕ) : Type 0 where
  pub from : i < L
  pub to : j < L
  pub round : (i + k ≡ j) ⊎ (i + k ≡ j + L)

-- on a round of L places, j comes next after i
abbrev pub Next : (L i j : ℕ) → Type 0
Next L i j = Ahead L 1 i j

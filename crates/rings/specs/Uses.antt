-- The links that a closed walk uses. Assumes nothing.
use Rattle.std.specs.Prelude.{◌≡◌, ℕ, ◌⊎◌, List, length, slice_index_or}
use Rattle.rings.specs.Ahead.{Next}

-- the closed walk c uses the link of a and b: they stand at a place of it and at the next, in either order
pub record Uses {J : Type 0} (c : List J) (a b : J) : Type 0 where
  pub place : ℕ
  pub after : ℕ
  pub next : Next (length c) place after
  pub either : ((a ≡ slice_index_or c place a) × (b ≡ slice_index_or c after a)) ⊎ ((b ≡ slice_index_or c place a) × (a ≡ slice_index_or c after a))

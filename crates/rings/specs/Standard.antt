-- The standard form of a ring through two links at a junction. Assumes nothing.
use Rattle.std.specs.Prelude.{◌≡◌, ℕ, ◌-◌, List, length, slice_index_or}
use Rattle.rings.specs.Ring.{Ring}

-- the list c is a ring of length L in standard form: it begins with o and then x, and ends with y
pub record Standard {J : Type 0} (Link : J → J → Type 0) (L : ℕ) (o x y : J) (c : List J) : Type 0 where
  pub ring : Ring Link c
  pub size : length c ≡ L
  pub first : slice_index_or c 0 o ≡ o
  pub second : slice_index_or c 1 o ≡ x
  pub last : slice_index_or c (L - 1) o ≡ y

-- Rings through two links at a junction. Assumes nothing.
use Rattle.std.specs.Prelude.{◌≡◌, ℕ, List, length}
use Rattle.rings.specs.Ring.{Ring}
use Rattle.rings.specs.Uses.{Uses}

-- the list c is a ring of length L that uses the links of o with x and of o with y
pub record Through {J : Type 0} (Link : J → J → Type 0) (L : ℕ) (o x y : J) (c : List J) : Type 0 where
  pub ring : Ring Link c
  pub size : length c ≡ L
  pub one : Uses c o x
  pub other : Uses c o y

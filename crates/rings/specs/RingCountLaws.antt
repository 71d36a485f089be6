-- What is proved of the number of rings through two different links at a junction. Assumes nothing.
use Rattle.std.specs.Prelude.{◌≡◌, ℕ, ◌≤◌, ◌↔◌, List, length}
use Rattle.mesh.specs.Listed.{In}
use Rattle.mesh.specs.Exactly.{Distinct, Many}
use Rattle.rings.specs.Through.{Through}
use Rattle.rings.specs.Standard.{Standard}
use Rattle.rings.specs.RingsOf.{RingsOf}

-- the laws of the number of rings of length L through the links of o with x and of o with y
pub record RingCountLaws {J : Type 0} (Link : J → J → Type 0) (L : ℕ) (o x y : J) : Type 0 where
  -- there are as many rings as lists in standard form
  pub counted : (n : ℕ) → RingsOf Link L o x y n ↔ Many (Standard Link L o x y) n
  -- there is one number of them
  pub one_number : (m n : ℕ) → RingsOf Link L o x y m → RingsOf Link L o x y n → m ≡ n
  -- it is 0 exactly if there is no such ring
  pub none : RingsOf Link L o x y 0 ↔ ((c : List J) → Through Link L o x y c → ⊥)
  -- different lists in standard form are no more than the rings
  pub at_most : (n : ℕ) (forms : List (List J)) → RingsOf Link L o x y n → Distinct forms → ((c : List J) → In c forms → Standard Link L o x y c) → length forms ≤ n

-- What is proved of counting; no equality need be decided. Assumes nothing.
use Rattle.std.specs.Prelude.{◌≡◌, ℕ, ◌≤◌, List, length}
use Rattle.mesh.specs.Listed.{In}
use Rattle.mesh.specs.Exactly.{Distinct, Exactly, Many}

-- the laws of the number of things with a property
pub record CountLaws {J : Type 0} (P : J → Type 0) : Type 0 where
  -- two lists of exactly these things are equally long, so that they have one number
  pub same_count : (xs ys : List J) → Exactly P xs → Exactly P ys → length xs ≡ length ys
  pub one_count : (m n : ℕ) → Many P m → Many P n → m ≡ n
  -- a list of such things without repetition is no longer than their number
  pub at_most : (n : ℕ) (xs : List J) → Many P n → Distinct xs → ((z : J) → In z xs → P z) → length xs ≤ n
  -- and if it is as long, it has them all
  pub all_found : (n : ℕ) (xs : List J) → Many P n → Distinct xs → ((z : J) → In z xs → P z) → length xs ≡ n → Exactly P xs

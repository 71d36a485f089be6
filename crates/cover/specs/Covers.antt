-- Covers of graphs, up to a range. Assumes nothing.
use Rattle.std.specs.Prelude.{◌≡◌, ℕ}
use Rattle.cover.specs.Apart.{Apart}

-- f takes linked things to linked things, each link at f a is that of some link at a, and f takes no two things to one that are at most R links apart
pub record Covers {J J' : Type 0} (Link : J → J → Type 0) (Link' : J' → J' → Type 0) (f : J → J') (R : ℕ) : Type 0 where
  pub keeps : (a b : J) → Link a b → Link' (f a) (f b)
  pub lifts : (a : J) (b' : J') → Link' (f a) b' → (b : J) × Link a b × (f b ≡ b')
  pub apart : Apart Link f R

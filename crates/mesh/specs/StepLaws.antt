-- What is proved of one more link, in any graph whose links go both ways. Assumes nothing.
use Rattle.std.specs.Prelude.{ℕ, suc, ◌≤◌, ◌↔◌}
use Rattle.mesh.specs.Distance.{Distance, Within}

-- how distances from one thing go on along a link
pub record StepLaws {J : Type 0} (Link : J → J → Type 0) : Type 0 where
  -- k + 1 from a is what is linked to something k from a and is not within k of a
  pub grows : (k : ℕ) (a c : J) → Distance Link (suc k) a c ↔ (((b : J) × Distance Link k a b × Link b c) × (Within Link k a c → ⊥))
  -- two linked things are, from a, at distances that differ by at most 1
  pub beside : (j k : ℕ) (a b c : J) → Distance Link j a b → Link b c → Distance Link k a c → (k ≤ suc j) × (j ≤ suc k)
  -- what is linked to something k from a is not beyond k + 1
  pub not_beyond : (k : ℕ) (a b c : J) → Distance Link k a b → Link b c → ((Within Link (suc k) a c → ⊥) → ⊥)

-- What is proved of walks and distances in any graph whose links go both ways. Assumes nothing.
use Rattle.std.specs.Prelude.{◌≡◌, ℕ, ◌+◌, ◌≤◌}
use Rattle.mesh.specs.Walk.{Walk}
use Rattle.mesh.specs.Distance.{Distance}

-- links go both ways
abbrev pub Symmetric : {J : Type 0} → (J → J → Type 0) → Type 0
Symmetric {J} Link = (a b : J) → Link a b → Link b a

-- how walks are made of walks
pub record WalkLaws {J : Type 0} (Link : J → J → Type 0) : Type 0 where
  -- a walk read backward is a walk
  pub reversed : (n : ℕ) (a b : J) → Walk Link n a b → Walk Link n b a
  -- two walks, one after the other, are a walk
  pub joined : (m n : ℕ) (a b c : J) → Walk Link m a b → Walk Link n b c → Walk Link (m + n) a c
  -- a walk splits after any number of its links
  pub split : (m n : ℕ) (a c : J) → Walk Link (m + n) a c → (b : J) × Walk Link m a b × Walk Link n b c

-- the distance is a metric
pub record DistanceLaws {J : Type 0} (Link : J → J → Type 0) : Type 0 where
  -- the distance is 0 of a thing from itself, and of nothing else
  pub itself : (a : J) → Distance Link 0 a a
  pub same : (a b : J) → Distance Link 0 a b → a ≡ b
  -- two things have one distance at most, and no walk is shorter
  pub unique : (m n : ℕ) (a b : J) → Distance Link m a b → Distance Link n a b → m ≡ n
  pub shortest : (m n : ℕ) (a b : J) → Distance Link m a b → Walk Link n a b → m ≤ n
  -- it is the same both ways
  pub symmetric : (n : ℕ) (a b : J) → Distance Link n a b → Distance Link n b a
  -- the triangle inequality: a way round is no shorter
  pub triangle : (l m n : ℕ) (a b c : J) → Distance Link l a b → Distance Link m b c → Distance Link n a c → n ≤ l + m

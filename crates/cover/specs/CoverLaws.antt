-- What a cover keeps of walks, distances and shells. Assumes nothing.
use Rattle.std.specs.Prelude.{◌≡◌, ℕ, ◌+◌, ◌*◌, ◌≤◌, ◌↔◌, List, map}
use Rattle.mesh.specs.Walk.{Walk}
use Rattle.mesh.specs.Distance.{Distance}
use Rattle.mesh.specs.Exactly.{Exactly, Many}

-- the laws of a cover up to R links
pub record CoverLaws {J J' : Type 0} (Link : J → J → Type 0) (Link' : J' → J' → Type 0) (f : J → J') (R : ℕ) : Type 0 where
  -- walks go to walks of as many links, and each walk from f a is that of a walk from a
  pub walks : (n : ℕ) (a b : J) → Walk Link n a b → Walk Link' n (f a) (f b)
  pub walks_lift : (n : ℕ) (a : J) (b' : J') → Walk Link' n (f a) b' → (b : J) × Walk Link n a b × (f b ≡ b')
  -- a distance of at most half of R is kept
  pub distances : (n : ℕ) (a b : J) → 2 * n ≤ R → Distance Link n a b → Distance Link' n (f a) (f b)
  -- what is n from f a is that of something n from a
  pub distances_lift : (n : ℕ) (a : J) (b' : J') → Distance Link' n (f a) b' → (b : J) × Distance Link n a b × (f b ≡ b')
  -- two things have the distance n of those that they go to, if a walk of k links joins them and k + n is at most R
  pub distances_back : (k n : ℕ) (a b : J) → k + n ≤ R → Walk Link k a b → Distance Link' n (f a) (f b) → Distance Link n a b
  -- no two of a shell go to one
  pub shell_apart : (n : ℕ) (a b c : J) → 2 * n ≤ R → Distance Link n a b → Distance Link n a c → f b ≡ f c → b ≡ c
  -- a list of exactly the shell goes to one of exactly the shell, and each of these is that of one
  pub shells : (n : ℕ) (a : J) (xs : List J) → 2 * n ≤ R → Exactly (Distance Link n a) xs → Exactly (Distance Link' n (f a)) (map f xs)
  pub shells_lift : (n : ℕ) (a : J) (ys : List J') → 2 * n ≤ R → Exactly (Distance Link' n (f a)) ys → (xs : List J) × Exactly (Distance Link n a) xs × (map f xs ≡ ys)
  -- as many are n from a as from f a
  pub shell_numbers : (n : ℕ) (a : J) (k : ℕ) → 2 * n ≤ R → Many (Distance Link n a) k ↔ Many (Distance Link' n (f a)) k

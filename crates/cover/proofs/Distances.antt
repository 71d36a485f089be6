-- Walks and distances under a cover. Assumes nothing.
use Rattle.std.proofs.Common.{◌≡◌, ℕ, ◌+◌, ◌*◌, ◌<◌, ◌≤◌, sym, refl, subst, arith}
use Rattle.mesh.specs.Walk.{Walk, stay, step}
use Rattle.mesh.specs.Distance.{Distance}
use Rattle.mesh.specs.WalkLaws.{Symmetric}
use Rattle.mesh.proofs.Walks.{join, turn}
use Rattle.rings.proofs.Rounds.{walk_as, dist_as}
use Rattle.cover.specs.Covers.{Covers}

module _ {J J' : Type 0} {Link : J → J → Type 0} {Link' : J' → J' → Type 0} {f : J → J'} {R : ℕ} (back : Symmetric Link) (cv : Covers Link Link' f R) where
  pub walk_kept : {n : ℕ} {a b : J} → Walk Link n a b → Walk Link' n (f a) (f b)
  walk_kept stay = stay
  walk_kept (step {a = a} {b = b} l w) = step (cv.keeps a b l) (walk_kept w)

  pub lifted : {n : ℕ} {a' b' : J'} (a : J) → f a ≡ a' → Walk Link' n a' b' → (b : J) × Walk Link n a b × (f b ≡ b')
  lifted a e stay = (a, stay, e)
  lifted a e (step {b = m} l w) =
      let s = cv.lifts a m (subst (λ z. Link' z m) (sym e) l) in
      let t = lifted s.0 s.2 w in
      (t.0, step s.1 t.1, t.2)

  -- two ends of walks from one junction that go to one
  pub near_by : (m n : ℕ) (o a b : J) → m + n ≤ R → Walk Link m o a → Walk Link n o b → f a ≡ f b → a ≡ b
  near_by m n o a b h w v e = cv.apart (m + n) a b h (join Link (turn Link back w) v) e

  pub distances_kept : (n : ℕ) (a b : J) → 2 * n ≤ R → Distance Link n a b → Distance Link' n (f a) (f b)
  distances_kept n a b h d = record { walk = walk_kept d.walk; fewest = less }
    where
      less : (m : ℕ) → m < n → Walk Link' m (f a) (f b) → ⊥
      less m k w =
          let t = lifted a refl w in
          d.fewest m k (walk_as Link refl refl (near_by m n a t.0 b (omega arith) t.1 d.walk t.2) t.1)

  pub distances_lift : (n : ℕ) (a : J) (b' : J') → Distance Link' n (f a) b' → (b : J) × Distance Link n a b × (f b ≡ b')
  distances_lift n a b' d =
      let t = lifted a refl d.walk in
      (t.0, record { walk = t.1; fewest = λ m k w. d.fewest m k (walk_as Link' refl refl t.2 (walk_kept w)) }, t.2)

  pub distances_back : (k n : ℕ) (a b : J) → k + n ≤ R → Walk Link k a b → Distance Link' n (f a) (f b) → Distance Link n a b
  distances_back k n a b h w d =
      let t = distances_lift n a (f b) d in
      dist_as Link refl refl (near_by n k a t.0 b (omega arith) t.1.walk w t.2) t.1

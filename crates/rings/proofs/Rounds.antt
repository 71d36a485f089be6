-- Walks and distances along a closed walk and a ring. Assumes nothing.
use Rattle.std.proofs.Common.{◌≡◌, ℕ, zero, suc, ◌+◌, ◌-◌, ◌<◌, min, List, length, get_or, sym, refl, ap, subst, inl, inr, arith}
use Rattle.mesh.specs.Walk.{Walk, stay, step}
use Rattle.mesh.specs.Distance.{Distance}
use Rattle.mesh.proofs.Walks.{turn_distance, nowhere}
use Rattle.rings.specs.Ahead.{Ahead}
use Rattle.rings.specs.Closed.{Closed}
use Rattle.rings.specs.Ring.{Ring}
use Rattle.rings.proofs.Places.{compared}

-- how far apart two places are on a round of L places
abbrev pub gap : (L i j : ℕ) → ℕ
gap L i j = min ((j - i) + (i - j)) (L - ((j - i) + (i - j)))

module _ {J : Type 0} (Link : J → J → Type 0) where
  -- the same walk, with its length and its ends written otherwise
  pub walk_as : {m n : ℕ} {a b a' b' : J} → m ≡ n → a ≡ a' → b ≡ b' → Walk Link m a b → Walk Link n a' b'
  walk_as {m} {n} {a} {b} {a'} {b'} e p q w = subst (λ k. Walk Link k a' b') e (subst (λ z. Walk Link m z b') p (subst (λ z. Walk Link m a z) q w))

  pub dist_as : {m n : ℕ} {a b a' b' : J} → m ≡ n → a ≡ a' → b ≡ b' → Distance Link m a b → Distance Link n a' b'
  dist_as e p q d = record {
    walk = walk_as e p q d.walk;
    fewest = λ k h w. d.fewest k (omega arith) (walk_as refl (sym p) (sym q) w);
  }

  -- a ring has the distance of any two of its places
  pub ring_far : (back : (a b : J) → Link a b → Link b a) (c : List J) → Ring Link c → (d : J) (i j : ℕ) → i < length c → j < length c → Distance Link (gap (length c) i j) (get_or c i d) (get_or c j d)
  ring_far back c r d i j hi hj = elim (compared i j) [
    | inl h ↦ dist_as (omega arith) refl refl (r.isometric d i j h hj)
    | inr (inl e) ↦ dist_as (omega arith) refl (ap (λ k. get_or c k d) e) (nowhere Link (get_or c i d))
    | inr (inr h) ↦ dist_as (omega arith) refl refl (turn_distance Link back (r.isometric d j i h hi))
  ]

  -- a walk along a closed walk
  pub along : (c : List J) → Closed Link c → (d : J) (k i j : ℕ) → Ahead (length c) k i j → Walk Link k (get_or c i d) (get_or c j d)
  along c cl d zero i j h = let e : i ≡ j = omega arith in walk_as refl refl (ap (λ k. get_or c k d) e) stay
  along c cl d (suc k) i j h = elim (compared (suc i) (length c)) [
    | inl b ↦ step (cl.linked d i (suc i) (record { from = omega arith; to = b; round = inl (omega arith) })) (along c cl d k (suc i) j (record { from = b; to = h.to; round = elim h.round [ inl q ↦ inl (omega arith) | inr q ↦ inr (omega arith) ] }))
    | inr (inl e) ↦ step (cl.linked d i 0 (record { from = omega arith; to = omega arith; round = inr (omega arith) })) (along c cl d k 0 j (record { from = omega arith; to = h.to; round = elim h.round [ inl q ↦ absurd (omega arith) | inr q ↦ inl (omega arith) ] }))
    | inr (inr b) ↦ absurd (omega arith)
  ]

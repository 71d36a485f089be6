-- Walks and distances in any graph.
use Rattle.std.proofs.Common.{◌≡◌, ℕ, zero, suc, ◌+◌, ◌<◌, ◌≤◌, sym, refl, subst, suc-add, zero-add, arith}
use native.Mathlib.Decide.{dec_lt, dec_le}
use Rattle.mesh.specs.Walk.{Walk, stay, step}
use Rattle.mesh.specs.Distance.{Distance, Within}
use Rattle.mesh.specs.WalkLaws.{Symmetric, WalkLaws, DistanceLaws}
use Rattle.mesh.specs.StepLaws.{StepLaws}

module _ {J : Type 0} (Link : J → J → Type 0) where
  pub one_step : {a b : J} → Link a b → Walk Link 1 a b
  one_step l = step l stay

  pub join : {m n : ℕ} {a b c : J} → Walk Link m a b → Walk Link n b c → Walk Link (m + n) a c
  join {n = n} {a} {c = c} stay w = subst (λ x. Walk Link x a c) (sym (zero-add n)) w
  join {n = n} {a} {c = c} (step {n = m} l v) w = subst (λ x. Walk Link x a c) (sym (suc-add m n)) (step l (join v w))

  pub then_step : {n : ℕ} {a b c : J} → Walk Link n a b → Link b c → Walk Link (suc n) a c
  then_step stay k = step k stay
  then_step (step l w) k = step l (then_step w k)

  pub turn : Symmetric Link → {n : ℕ} {a b : J} → Walk Link n a b → Walk Link n b a
  turn s stay = stay
  turn s (step {a = a} {b = b} l w) = then_step (turn s w) (s a b l)

  pub same_length : {m n : ℕ} {a b : J} → m ≡ n → Walk Link m a b → Walk Link n a b
  same_length {a = a} {b} e w = subst (λ x. Walk Link x a b) e w

  first_step : {k : ℕ} {a c : J} → Walk Link k a c → (n : ℕ) → k ≡ suc n → (b : J) × Link a b × Walk Link n b c
  first_step stay n e = let f : ⊥ = omega arith in absurd f
  first_step (step {n = m} {b = b} l w) n e = (b, l, same_length (omega arith) w)

  -- a walk of m + n links has a junction m on
  pub split : (m n : ℕ) {a c : J} → Walk Link (m + n) a c → (b : J) × Walk Link m a b × Walk Link n b c
  split zero n {a} w = (a, stay, same_length (zero-add n) w)
  split (suc m) n w =
      let f = first_step w (m + n) (omega arith) in
      let r = split m n f.2 in
      (r.0, step f.1 r.1, r.2)

  pub ended : {k : ℕ} {a b : J} → Walk Link k a b → k ≡ 0 → a ≡ b
  ended stay e = refl
  ended (step l v) e = let f : ⊥ = omega arith in absurd f

  pub last_step : (n : ℕ) {a c : J} → Walk Link (suc n) a c → (b : J) × Walk Link n a b × Link b c
  last_step n w =
      let r = split n 1 (same_length (omega arith) w) in
      let f = first_step r.2 0 refl in
      (r.0, r.1, subst (λ x. Link r.0 x) (ended f.2 refl) f.1)

  -- a distance is at most the length of any walk, and there is one distance
  pub shortest : {m n : ℕ} {a b : J} → Distance Link m a b → Walk Link n a b → m ≤ n
  shortest {m} {n} d w = elim (dec_le m n) [ yes h ↦ h | no h ↦ absurd (d.fewest n (omega arith) w) ]

  pub one_distance : {m n : ℕ} {a b : J} → Distance Link m a b → Distance Link n a b → m ≡ n
  one_distance d e = let p = shortest d e.walk in let q = shortest e d.walk in omega arith

  pub nowhere : (a : J) → Distance Link 0 a a
  nowhere a = record { walk = stay; fewest = λ m h w. omega arith }

  pub turn_distance : Symmetric Link → {n : ℕ} {a b : J} → Distance Link n a b → Distance Link n b a
  turn_distance s d = record { walk = turn s d.walk; fewest = λ m h w. d.fewest m h (turn s w) }

  pub triangle : {l m n : ℕ} {a b c : J} → Distance Link l a b → Distance Link m b c → Distance Link n a c → n ≤ l + m
  triangle d e f = shortest f (join d.walk e.walk)

  -- where no distance is at most k, no walk is
  pub no_walk : (k : ℕ) (a b : J) → (Within Link k a b → ⊥) → (m : ℕ) → m ≤ k → Walk Link m a b → ⊥
  no_walk k a b f m h w = below (suc m) (omega arith) m (omega arith) w
    where
      below : (n : ℕ) → n ≤ suc k → (m : ℕ) → m < n → Walk Link m a b → ⊥
      below zero h m l w = omega arith
      below (suc n) h m l w =
          elim (dec_lt m n) [
            | yes p ↦ below n (omega arith) m p w
            | no p ↦ f (record {
              far = m;
              near = omega arith;
              distance = record { walk = w; fewest = λ i q v. below n (omega arith) i (omega arith) v };
            })
          ]

  -- the next shell is what is linked to a shell and not yet within it
  pub onward : (k : ℕ) (a c : J) → Distance Link (suc k) a c → ((b : J) × Distance Link k a b × Link b c) × (Within Link k a c → ⊥)
  onward k a c d =
      let s = last_step k d.walk in (
        (s.0, record { walk = s.1; fewest = λ m h w. d.fewest (suc m) (omega arith) (then_step w s.2) }, s.2),
        λ i. d.fewest i.far (let h = i.near in omega arith) i.distance.walk,
      )

  pub reached : (k : ℕ) (a b c : J) → Distance Link k a b → Link b c → (Within Link k a c → ⊥) → Distance Link (suc k) a c
  reached k a b c d l f = record { walk = then_step d.walk l; fewest = λ m h w. no_walk k a c f m (omega arith) w }

  -- links join neighbouring shells
  pub beside : Symmetric Link → {j k : ℕ} {a b c : J} → Distance Link j a b → Link b c → Distance Link k a c → (k ≤ suc j) × (j ≤ suc k)
  beside s {b = b} {c} d l e = (shortest e (then_step d.walk l), shortest d (then_step e.walk (s b c l)))

  pub not_beyond : (k : ℕ) (a b c : J) → Distance Link k a b → Link b c → ((Within Link (suc k) a c → ⊥) → ⊥)
  not_beyond k a b c d l f = no_walk (suc k) a c f (suc k) (omega arith) (then_step d.walk l)

  pub walk_laws : Symmetric Link → WalkLaws Link
  walk_laws s = record {
    reversed = λ n a b w. turn s w;
    joined = λ m n a b c v w. join v w;
    split = λ m n a c w. split m n w;
  }

  pub distance_laws : Symmetric Link → DistanceLaws Link
  distance_laws s = record {
    itself = nowhere;
    same = λ a b d. ended d.walk refl;
    unique = λ m n a b d e. one_distance d e;
    shortest = λ m n a b d w. shortest d w;
    symmetric = λ n a b d. turn_distance s d;
    triangle = λ l m n a b c d e f. triangle d e f;
  }

  pub step_laws : Symmetric Link → StepLaws Link
  step_laws s = record {
    grows = λ k a c. (onward k a c, λ r. reached k a r.0.0 c r.0.1 r.0.2 r.1);
    beside = λ j k a b c d l e. beside s d l e;
    not_beyond = not_beyond;
  }

-- From the entry above exactly j ranks to the least entry above it.
use Rattle.std.proofs.Common.{◌≡◌, ℕ, ◌+◌, ◌<◌, ◌⊎◌, List, map, Some, None, Less, sym, subst, inl, inr, arith}
use Rattle.label.specs.Order.{Order}
use Rattle.mesh.specs.Listed.{In}
use Rattle.mesh.specs.Exactly.{Many}
use Rattle.mesh.proofs.Lists.{in_map, from_map}
use Rattle.mesh.proofs.Counts.{added}
use Rattle.least.specs.Least.{Least}
use Rattle.least.specs.Nth.{Nth, NoMore}
use Rattle.least.proofs.Orders.{not_itself, either_way}
use Rattle.least.proofs.Counting.{none_many, one_many, same_many}

-- what holds of the rank of each entry holds of each rank
each_rank : {T R : Type 0} (rank : T → R) (entries : List T) (P : R → Type 0) → ((y : T) → In y entries → P (rank y)) → (x : R) → In x (map rank entries) → P x
each_rank rank entries P each x i = let r = from_map rank x entries i in subst P (sym r.2) (each r.0 r.1)

module _ {T R : Type 0} (O : Order R) (rank : T → R) (entries : List T) where
  -- the least of all has nothing below it
  pub first : (m : T) → Least O rank entries None m → Nth O rank entries 0 m
  first m s = record {
    found = s.found;
    lower = none_many (λ x. In x (map rank entries) × (O.cmp x (rank m) ≡ Less))
        (λ x k. each_rank rank entries (λ z. O.cmp z (rank m) ≡ Less → ⊥) (λ y i. s.least y i tt) x k.0 k.1);
  }

  -- no entries, no ranks
  pub no_ranks : (i : ℕ) → ((x : T) → In x entries → Unit {0} → ⊥) → NoMore rank entries i
  no_ranks i none = record {
    ranks = 0;
    few = omega arith;
    all = none_many (λ x. In x (map rank entries)) (each_rank rank entries (λ z. ⊥) (λ y k. none y k tt));
  }

  module _ (j : ℕ) (m : T) (s : Nth O rank entries j m) where
    -- a rank below that of m, or the same
    abbrev UpTo : R → Type 0
    UpTo x = In x (map rank entries) × ((O.cmp x (rank m) ≡ Less) ⊎ (x ≡ rank m))

    -- there are j ranks below that of m, and its own
    counted : Many UpTo (j + 1)
    counted =
        added (λ x. In x (map rank entries) × (O.cmp x (rank m) ≡ Less)) (λ x. x ≡ rank m) UpTo
        (λ x k e. not_itself O (rank m) (subst (λ (z : R). O.cmp z (rank m) ≡ Less) e k.1))
        (λ x k. elim k [
          | inl l ↦ (l.0, inl l.1)
          | inr e ↦ (subst (λ (z : R). In z (map rank entries)) (sym e) (in_map rank m entries s.found), inr e)
        ])
        (λ x k. elim k.1 [ inl l ↦ inl (k.0, l) | inr e ↦ inr e ])
        j 1 s.lower (one_many (rank m))

    not_above : (x : R) → In x (map rank entries) → (O.cmp (rank m) x ≡ Less → ⊥) → UpTo x
    not_above x i f = (i, elim (either_way O x (rank m)) [ inl l ↦ inl l | inr (inl e) ↦ inr e | inr (inr g) ↦ absurd (f g) ])

    -- below the least entry above m are the ranks up to that of m
    pub next : (n : T) → Least O rank entries (Some m) n → Nth O rank entries (j + 1) n
    next n t = record {
      found = t.found;
      lower = same_many UpTo (λ x. In x (map rank entries) × (O.cmp x (rank n) ≡ Less))
          (λ x k. (k.0, elim k.1 [ inl l ↦ O.chain x (rank m) (rank n) l t.above | inr e ↦ subst (λ (z : R). O.cmp z (rank n) ≡ Less) (sym e) t.above ]))
          (λ x k. not_above x k.0 (λ g. each_rank rank entries (λ z. O.cmp (rank m) z ≡ Less → O.cmp z (rank n) ≡ Less → ⊥) t.least x k.0 g k.1))
          (j + 1) counted;
    }

    -- where no entry is above m, there are no other ranks
    pub last : (i : ℕ) → j < i → ((x : T) → In x entries → O.cmp (rank m) (rank x) ≡ Less → ⊥) → NoMore rank entries i
    last i h none = record {
      ranks = j + 1;
      few = omega arith;
      all = same_many UpTo (λ x. In x (map rank entries)) (λ x k. k.0)
          (λ x k. not_above x k (each_rank rank entries (λ z. O.cmp (rank m) z ≡ Less → ⊥) none x k))
          (j + 1) counted;
    }

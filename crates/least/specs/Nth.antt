-- The entry above exactly i ranks. Assumes nothing.
use Rattle.std.specs.Prelude.{◌≡◌, ℕ, ◌≤◌, List, map, Option, MatchOption}
use Rattle.std.specs.declared.cmp.Ordering.TheVariants.{Less}
use Rattle.label.specs.Order.{Order}
use Rattle.mesh.specs.Listed.{In}
use Rattle.mesh.specs.Exactly.{Many}

-- m is an entry, and exactly i different ranks of entries are below that of m
pub record Nth {T R : Type 0} (order : Order R) (rank : T → R) (entries : List T) (i : ℕ) (m : T) : Type 0 where
  pub found : In m entries
  pub lower : Many (λ x. In x (map rank entries) × (order.cmp x (rank m) ≡ Less)) i

-- the entries have n different ranks, and n is no more than i
pub record NoMore {T R : Type 0} (rank : T → R) (entries : List T) (i : ℕ) : Type 0 where
  pub ranks : ℕ
  pub few : ranks ≤ i
  pub all : Many (λ x. In x (map rank entries)) ranks

-- the answer of `nth_least`: an entry above exactly i ranks, and none only if the entries have no more than i different ranks
abbrev pub NthClause : {T R : Type 0} → Order R → (T → R) → List T → ℕ → Option T → Type 0
NthClause order rank entries i r = MatchOption r (NoMore rank entries i) (Nth order rank entries i)

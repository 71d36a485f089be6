-- The least entry above a floor. Assumes nothing.
use Rattle.std.specs.Prelude.{List, Option, MatchOption}
use Rattle.label.specs.Order.{Order}
use Rattle.mesh.specs.Listed.{In}
use Rattle.least.specs.Bounds.{Lower, Above}

-- m is an entry above the floor, and no entry above the floor ranks below m
pub record Least {T R : Type 0} (order : Order R) (rank : T → R) (entries : List T) (floor : Option T) (m : T) : Type 0 where
  pub found : In m entries
  pub above : Above order rank floor m
  pub least : (x : T) → In x entries → Above order rank floor x → Lower order rank x m → ⊥

-- the answer of `least_above`: the least entry above the floor, and none only if no entry is above it
abbrev pub LeastClause : {T R : Type 0} → Order R → (T → R) → List T → Option T → Option T → Type 0
LeastClause {T} order rank entries floor r =
    MatchOption r ((x : T) → In x entries → Above order rank floor x → ⊥) (Least order rank entries floor)

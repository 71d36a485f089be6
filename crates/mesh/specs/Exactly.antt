-- Lists that hold each thing with a property once, and how many such things there are. Assumes nothing.
use Rattle.std.specs.Prelude.{◌≡◌, ℕ, List, [], ◌∷◌, length}
use Rattle.mesh.specs.Listed.{In}

-- nothing stands in the list twice
abbrev pub Distinct : {J : Type 0} → List J → Type 0
Distinct [] = Unit {0}
Distinct (x ∷ xs) = (In x xs → ⊥) × Distinct xs

-- the list holds what P is true of, each once, and nothing else
pub record Exactly {J : Type 0} (P : J → Type 0) (xs : List J) : Type 0 where
  pub distinct : Distinct xs
  pub only : (b : J) → In b xs → P b
  pub all : (b : J) → P b → In b xs

-- P is true of n things: a list that holds exactly them has n places
pub record Many {J : Type 0} (P : J → Type 0) (n : ℕ) : Type 0 where
  pub which : List J
  pub exactly : Exactly P which
  pub count : length which ≡ n

-- A closed walk begun elsewhere, and the other way round. Assumes nothing.
use Rattle.std.specs.Prelude.{ℕ, List, [], ◌∷◌, ◌++◌, reverse, take, drop}

-- the same round, begun at the place k
abbrev pub rotated : {J : Type 0} → ℕ → List J → List J
rotated k c = drop k c ++ take k c

-- the same round the other way, begun at the same place
abbrev pub turned : {J : Type 0} → List J → List J
turned [] = []
turned (a ∷ rest) = a ∷ reverse rest

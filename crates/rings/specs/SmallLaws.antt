-- What is proved of the smallest rings, in any graph. Assumes nothing.
use Rattle.std.specs.Prelude.{[], ◌∷◌}
use Rattle.mesh.specs.Exactly.{Distinct}
use Rattle.rings.specs.Ring.{Ring}

-- the cases of three and of four
pub record SmallLaws {J : Type 0} (Link : J → J → Type 0) : Type 0 where
  -- a triangle is a ring: three different junctions that are linked two by two
  pub triangle : (a b c : J) → Distinct (a ∷ b ∷ c ∷ []) → Link a b → Link b c → Link c a → Ring Link (a ∷ b ∷ c ∷ [])
  -- a square with a diagonal is no ring
  pub diagonal : (a b c d : J) → Link a c → Ring Link (a ∷ b ∷ c ∷ d ∷ []) → ⊥
  -- with the other diagonal neither
  pub other_diagonal : (a b c d : J) → Link b d → Ring Link (a ∷ b ∷ c ∷ d ∷ []) → ⊥

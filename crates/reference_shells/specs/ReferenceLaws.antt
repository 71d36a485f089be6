-- What is proved of the reference meshes. Assumes nothing.
use Rattle.std.specs.Prelude.{ℕ, ◌≤◌, [], ◌∷◌}
use Rattle.lattice.specs.Screws.{screws}
use Rattle.permutation.specs.Permutations.{perm_group}
use Rattle.mesh.specs.Exactly.{Many}
use Rattle.mesh.specs.Shell.{Shell}
use Rattle.reference_shells.specs.Sequence.{Sequence}
use Rattle.lattice.specs.Translations.{translations}
use Rattle.reference_shells.specs.Square.{square}
use Rattle.reference_shells.specs.Diamond.{diamond}
use Rattle.reference_shells.specs.FourfoldScrew.{fourfold_screw}
use Rattle.reference_shells.specs.Closed.{closed}

-- how the coordination sequences of the reference meshes begin
pub record ReferenceLaws : Type 0 where
  -- the square mesh: 1, 4, 8
  pub square_shells : Sequence translations square 0 (1 ∷ 4 ∷ 8 ∷ [])
  -- the diamond mesh, from either node: 1, 4, 12
  pub diamond_shells : Sequence translations diamond 0 (1 ∷ 4 ∷ 12 ∷ [])
  pub diamond_shells_other : Sequence translations diamond 1 (1 ∷ 4 ∷ 12 ∷ [])
  -- the fourfold screw mesh: 1, 4, 12
  pub screw_shells : Sequence screws fourfold_screw 0 (1 ∷ 4 ∷ 12 ∷ [])
  -- the closed mesh: 1, 2, 2, 2, 1, 0, and 0 from there on
  pub closed_shells : Sequence perm_group closed 0 (1 ∷ 2 ∷ 2 ∷ 2 ∷ 1 ∷ 0 ∷ [])
  pub closed_beyond : (k : ℕ) → 5 ≤ k → Many (Shell perm_group closed 0 k) 0

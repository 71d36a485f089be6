-- Maps of graphs that do not fold at short range. Assumes nothing.
use Rattle.std.specs.Prelude.{◌≡◌, ℕ, ◌≤◌}
use Rattle.mesh.specs.Walk.{Walk}

-- f takes no two things to one that a walk of at most R links joins
abbrev pub Apart : {J J' : Type 0} → (J → J → Type 0) → (J → J') → ℕ → Type 0
Apart {J} Link f R = (n : ℕ) (a b : J) → n ≤ R → Walk Link n a b → f a ≡ f b → a ≡ b

-- What is proved of shells and balls. Assumes nothing.
use Rattle.std.specs.Prelude.{ℕ, suc, ◌+◌, ◌≤◌, ◌↔◌, List, [], ◌∷◌}
use Rattle.label.specs.Group.{Group}
use Rattle.mesh.specs.Walk.{Walk}
use Rattle.mesh.specs.Exactly.{Exactly, Many}
use Rattle.mesh.specs.Net.{Net}
use Rattle.mesh.specs.Junction.{Junction, home}
use Rattle.mesh.specs.Link.{Link}
use Rattle.mesh.specs.Shell.{Shell, Ball}

-- how the shells of a net follow one another
pub record ShellLaws {M : Type 0} (G : Group M) (net : Net M) : Type 0 where
  -- the shell 0 and the ball 0 are the home alone
  pub first : (v : ℕ) → Exactly (Shell G net v 0) (home G v ∷ [])
  pub start : (v : ℕ) → Exactly (Ball G net v 0) (home G v ∷ [])
  -- the next shell is what is linked to the shell and is not in the ball
  pub grows : (v k : ℕ) (b : Junction M) → Shell G net v (suc k) b ↔ (((a : Junction M) × Shell G net v k a × Link G net a b) × (Ball G net v k b → ⊥))
  -- linked junctions are in one shell or in two that follow one another
  pub beside : (v j k : ℕ) (a b : Junction M) → Shell G net v j a → Link G net a b → Shell G net v k b → (k ≤ suc j) × (j ≤ suc k)
  -- a ball and the next shell make the next ball: its number is the sum of theirs
  pub sums : (v k m n : ℕ) → Many (Ball G net v k) m → Many (Shell G net v (suc k)) n → Many (Ball G net v (suc k)) (m + n)

-- each shell and each ball is finite, and it is decided what is in it
pub record FiniteLaws {M : Type 0} (G : Group M) (net : Net M) : Type 0 where
  -- a list holds exactly the ball, and one exactly the shell
  pub balls : (v k : ℕ) → (xs : List (Junction M)) × Exactly (Ball G net v k) xs
  pub shells : (v k : ℕ) → (xs : List (Junction M)) × Exactly (Shell G net v k) xs
  -- so each node has a coordination sequence: the numbers of junctions in its shells
  pub coordination : (v k : ℕ) → (n : ℕ) × Many (Shell G net v k) n
  -- a junction is in the ball or not, and in the shell or not
  pub in_ball : (v k : ℕ) (b : Junction M) → Dec (Ball G net v k b)
  pub in_shell : (v k : ℕ) (b : Junction M) → Dec (Shell G net v k b)
  -- what a walk of at most k links reaches is in the ball
  pub walked : (v k n : ℕ) (b : Junction M) → n ≤ k → Walk (Link G net) n (home G v) b → Ball G net v k b
  -- what is linked to a shell is in the shell before it, in it or in the one after it
  pub linked : (v k : ℕ) (a b : Junction M) → Shell G net v k a → Link G net a b → (j : ℕ) × (k ≤ suc j) × (j ≤ suc k) × Shell G net v j b

-- What is proved of the search: its lists are the shells and the balls. Assumes nothing.
use Rattle.std.specs.Prelude.{ℕ, ◌≤◌, length}
use Rattle.label.specs.Group.{Group}
use Rattle.label.specs.Order.{Order}
use Rattle.mesh.specs.Exactly.{Exactly, Many}
use Rattle.mesh.specs.Net.{Net}
use Rattle.mesh.specs.Shell.{Shell, Ball}
use Rattle.reference_shells.specs.BreadthFirst.{searched, counted}
use Rattle.reference_shells.specs.Sequence.{Sequence}

-- after k steps the search has exactly the shell k and exactly the ball k
pub record BreadthFirstLaws {M : Type 0} (G : Group M) (O : Order M) (net : Net M) : Type 0 where
  pub shells : (v k : ℕ) → Exactly (Shell G net v k) (searched G O net v k).shell
  pub balls : (v k : ℕ) → Exactly (Ball G net v k) (searched G O net v k).ball
  -- so the lengths of its lists are the numbers of junctions
  pub shell_count : (v k : ℕ) → Many (Shell G net v k) (length (searched G O net v k).shell)
  pub ball_count : (v k : ℕ) → Many (Ball G net v k) (length (searched G O net v k).ball)
  -- and the coordination sequence of a node begins with what the search counts, however far it goes
  pub sequence : (v n : ℕ) → Sequence G net v (counted G O net v n)
  -- beyond an empty shell every shell is empty, so that the search may end there
  pub beyond : (v k n : ℕ) → Many (Shell G net v k) 0 → k ≤ n → Many (Shell G net v n) 0

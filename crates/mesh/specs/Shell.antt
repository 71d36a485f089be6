-- Shells and balls round the home of a node. Assumes nothing.
use Rattle.std.specs.Prelude.{ℕ}
use Rattle.label.specs.Group.{Group}
use Rattle.mesh.specs.Distance.{Distance, Within}
use Rattle.mesh.specs.Net.{Net}
use Rattle.mesh.specs.Junction.{Junction, home}
use Rattle.mesh.specs.Link.{Link}

-- b is in the shell k of v: its distance from the home of v is k
abbrev pub Shell : {M : Type 0} → Group M → Net M → ℕ → ℕ → Junction M → Type 0
Shell G net v k b = Distance (Link G net) k (home G v) b

-- b is in the ball k of v: its distance from the home of v is at most k
abbrev pub Ball : {M : Type 0} → Group M → Net M → ℕ → ℕ → Junction M → Type 0
Ball G net v k b = Within (Link G net) k (home G v) b

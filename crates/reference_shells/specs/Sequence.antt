-- The beginning of a node's coordination sequence. Assumes nothing.
use Rattle.std.specs.Prelude.{ℕ, ◌<◌, List, length, slice_index}
use Rattle.label.specs.Group.{Group}
use Rattle.mesh.specs.Exactly.{Many}
use Rattle.mesh.specs.Net.{Net}
use Rattle.mesh.specs.Shell.{Shell}

-- the shells 0, 1, 2, .. of v have the numbers of junctions that the list says, as far as it goes
abbrev pub Sequence : {M : Type 0} → Group M → Net M → ℕ → List ℕ → Type 0
Sequence G net v ns = (k : ℕ) → k < length ns → Many (Shell G net v k) (slice_index ns k)

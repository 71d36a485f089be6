-- Nets whose labels have small numbers. Assumes nothing.
use Rattle.std.specs.Prelude.{ℕ, ◌≤◌, unsigned_abs}
use Rattle.lattice.specs.Triples.{Triple}
use Rattle.mesh.specs.Listed.{In}
use Rattle.mesh.specs.Net.{Line, Net}

-- each number of the translation is from -B to B
pub record Small (B : ℕ) (t : Triple) : Type 0 where
  pub first : unsigned_abs t.0.0 ≤ B
  pub second : unsigned_abs t.1.0.0 ≤ B
  pub third : unsigned_abs t.1.1.0 ≤ B

-- each number of each label of the net is from -B to B
abbrev pub SmallLabels : ℕ → Net Triple → Type 0
SmallLabels B net = (l : Line Triple) → In l net.lines → Small B l.label

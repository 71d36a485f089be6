-- How many rings go through two links at a junction. Assumes nothing.
use Rattle.std.specs.Prelude.{◌≡◌, ℕ, List, length}
use Rattle.mesh.specs.Listed.{In}
use Rattle.mesh.specs.Exactly.{Distinct}
use Rattle.rings.specs.SameRing.{SameRing}
use Rattle.rings.specs.Through.{Through}

-- n rings of length L use both the link of o with x and that of o with y: some list has n of them, no two the same ring, and every such ring is the same as one of the list
pub record RingsOf {J : Type 0} (Link : J → J → Type 0) (L : ℕ) (o x y : J) (n : ℕ) : Type 0 where
  pub rings : List (List J)
  pub count : length rings ≡ n
  pub distinct : Distinct rings
  pub through : (c : List J) → In c rings → Through Link L o x y c
  pub once : (c d : List J) → In c rings → In d rings → SameRing c d → c ≡ d
  pub all : (c : List J) → Through Link L o x y c → (d : List J) × In d rings × SameRing c d

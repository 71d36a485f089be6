-- The net of the closed mesh, a cycle of eight junctions. Assumes nothing.
use Rattle.std.specs.Prelude.{◌≡◌, ℕ, true, List, [], ◌∷◌, refl}
use Rattle.symmetric.specs.Images.{Perm, permutes, each_once}
use Rattle.mesh.specs.Net.{Net}

-- each point goes to the next, and the last to the first
abbrev pub next_images : List ℕ
next_images = 1 ∷ 2 ∷ 3 ∷ 4 ∷ 5 ∷ 6 ∷ 7 ∷ 0 ∷ []

-- each point stands once among these images
pub next_permutes : permutes next_images ≡ true
unfolding each_once
next_permutes = refl

-- the permutation with these images
abbrev pub next_point : Perm
next_point = (next_images, next_permutes)

-- one node, with one loop
abbrev pub closed : Net Perm
closed = record { nodes = 1; lines = record { tail = 0; head = 0; label = next_point } ∷ [] }

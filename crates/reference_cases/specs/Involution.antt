-- A line that drawing refuses: a loop whose label is its own inverse. Assumes nothing.
use Rattle.std.specs.Prelude.{◌≡◌, ℕ, true, List, [], ◌∷◌, refl}
use Rattle.symmetric.specs.Images.{Perm, permutes, each_once}
use Rattle.mesh.specs.Net.{Line, Net}

-- the points 0 and 1 change places, and the others stay
abbrev pub swap_images : List ℕ
swap_images = 1 ∷ 0 ∷ 2 ∷ 3 ∷ 4 ∷ 5 ∷ 6 ∷ 7 ∷ []

-- each point stands once among these images
pub swap_permutes : permutes swap_images ≡ true
unfolding each_once
swap_permutes = refl

-- the permutation with these images
abbrev pub swap : Perm
swap = (swap_images, swap_permutes)

-- one node, without lines
abbrev pub lone_node : Net Perm
lone_node = record { nodes = 1; lines = [] }

-- the loop at the node 0
abbrev pub swap_loop : Line Perm
swap_loop = record { tail = 0; head = 0; label = swap }

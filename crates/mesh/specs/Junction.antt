-- The junctions of the mesh over a group: the vertices of the derived graph. Assumes nothing.
use Rattle.std.specs.Prelude.{ℕ}
use Rattle.label.specs.Group.{Group}

-- a junction is a node with a label
pub record Junction (M : Type 0) : Type 0 where
  pub node : ℕ
  pub label : M

-- the junction (u, h)
abbrev pub spot : {M : Type 0} → ℕ → M → Junction M
spot u h = record { node = u; label = h }

-- the home of a node: its junction at the identity
abbrev pub home : {M : Type 0} → Group M → ℕ → Junction M
home G v = spot v G.one

-- the deck transformation of h, which multiplies each label by h on the left
abbrev pub carry : {M : Type 0} → Group M → M → Junction M → Junction M
carry G h a = spot a.node (G.mul h a.label)

-- Junctions are ordered by node, then by label. Assumes nothing.
use Rattle.std.specs.Prelude.{◌≡◌, ℕ}
use Rattle.std.proofs.Common.{ap}
use Rattle.label.specs.Order.{Order, pair_order}
use Rattle.label.specs.NumberOrder.{number_order, order_by}
use Rattle.mesh.specs.Junction.{Junction}

-- the node and the label of a junction
abbrev pub parts : {M : Type 0} → Junction M → ℕ × M
parts a = (a.node, a.label)

pub parts_apart : {M : Type 0} (a b : Junction M) → parts a ≡ parts b → a ≡ b
parts_apart {M} a b e = λ i. record { node = ap (λ (x : ℕ × M). x.0) e i; label = ap (λ (x : ℕ × M). x.1) e i }

-- by node, and by label where the nodes are the same
abbrev pub junction_order : {M : Type 0} → Order M → Order (Junction M)
junction_order O = order_by parts parts_apart (pair_order number_order O)

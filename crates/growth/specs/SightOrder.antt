-- Sights are ordered by centre, then by junction: the order by which a found list is searched. Assumes nothing.
use Rattle.std.specs.Prelude.{◌≡◌, ℕ}
use Rattle.std.proofs.Common.{ap}
use Rattle.label.specs.Order.{Order, pair_order}
use Rattle.label.specs.NumberOrder.{number_order, order_by}
use Rattle.mesh.specs.Junction.{Junction}
use Rattle.mesh.specs.JunctionOrder.{junction_order}
use Rattle.growth.specs.Entry.{Sight}

-- the centre and the junction of a sight
abbrev pub parts : {M : Type 0} → Sight M → ℕ × Junction M
parts t = (t.centre, t.junction)

pub parts_apart : {M : Type 0} (s t : Sight M) → parts s ≡ parts t → s ≡ t
parts_apart {M} s t e = λ i. record { centre = ap (λ (x : ℕ × Junction M). x.0) e i; junction = ap (λ (x : ℕ × Junction M). x.1) e i }

-- by centre, and by junction where the centres are the same
abbrev pub sight_order : {M : Type 0} → Order M → Order (Sight M)
sight_order O = order_by parts parts_apart (pair_order number_order (junction_order O))

-- One wrapping coordinate: the integers that 32 bits hold, added round the end. Assumes nothing.
use Rattle.std.specs.Prelude.{◌≡◌, ℤ, pos, ◌+ℤ◌, neg_ℤ}
use Rattle.std.proofs.Common.{sym, ap, ◌∙◌, arith, Equal}
use Rattle.std.specs.Ordering.{int_cmp}
use Rattle.std.specs.Cmp.{on_total, int_cmp_total}
use mathlib.Core.HLevel.{Σ_prop_path}
use Rattle.std.proofs.Math.IntN.{+ℤ_assoc, +ℤ_comm, +ℤ_idl, +ℤ_idr, +ℤ_invl, +ℤ_invr, ℤ_set}
use Rattle.std.specs.Int.{int_wrap, w32}
use Rattle.std.proofs.lemmas.Int.{ints, int_wrap_fits, SFits-int_wrap, int_wrap-add_left, int_wrap-add_right}
use Rattle.label.specs.Group.{Group}
use Rattle.label.specs.Order.{Order, total_order}

-- an integer that 32 bits hold
abbrev pub Coord : Type 0
Coord = (z : ℤ) × (int_wrap w32 z ≡ z)

pub coord_same : (x y : Coord) → x.0 ≡ y.0 → x ≡ y
coord_same x y p = Σ_prop_path (λ (z : ℤ). ℤ_set (int_wrap w32 z) z) p

pub wrapped_twice : (z : ℤ) → int_wrap w32 (int_wrap w32 z) ≡ int_wrap w32 z
wrapped_twice z = int_wrap_fits w32 (int_wrap w32 z) (SFits-int_wrap w32 z)

-- the coordinate that an integer wraps to
abbrev pub coord : ℤ → Coord
coord z = (int_wrap w32 z, wrapped_twice z)

pub coord_is : (a b : ℤ) → int_wrap w32 a ≡ int_wrap w32 b → coord a ≡ coord b
coord_is a b p = coord_same (coord a) (coord b) p

pub coord_back : (x : Coord) → coord x.0 ≡ x
coord_back x = coord_same (coord x.0) x x.1

-- the sum, wrapped
abbrev pub add : Coord → Coord → Coord
add x y = coord (x.0 +ℤ y.0)

pub add_coord : (a b : ℤ) → coord (a +ℤ b) ≡ add (coord a) (coord b)
add_coord a b = coord_is (a +ℤ b) (int_wrap w32 a +ℤ int_wrap w32 b) (sym (int_wrap-add_left w32 a (int_wrap w32 b) ∙ int_wrap-add_right w32 a b))

pub add_left : (x : Coord) → add (coord (pos 0)) x ≡ x
add_left x = coord_is (int_wrap w32 (pos 0) +ℤ x.0) x.0 (int_wrap-add_left w32 (pos 0) x.0 ∙ ap (int_wrap w32) (+ℤ_idl x.0)) ∙ coord_back x

pub add_right : (x : Coord) → add x (coord (pos 0)) ≡ x
add_right x = coord_is (x.0 +ℤ int_wrap w32 (pos 0)) x.0 (int_wrap-add_right w32 x.0 (pos 0) ∙ ap (int_wrap w32) (+ℤ_idr x.0)) ∙ coord_back x

pub add_assoc : (x y z : Coord) → add (add x y) z ≡ add x (add y z)
add_assoc x y z =
    coord_is (int_wrap w32 (x.0 +ℤ y.0) +ℤ z.0) (x.0 +ℤ int_wrap w32 (y.0 +ℤ z.0))
    (int_wrap-add_left w32 (x.0 +ℤ y.0) z.0 ∙ ap (int_wrap w32) (+ℤ_assoc x.0 y.0 z.0) ∙ sym (int_wrap-add_right w32 x.0 (y.0 +ℤ z.0)))

pub add_comm : (x y : Coord) → add x y ≡ add y x
add_comm x y = ap coord (+ℤ_comm x.0 y.0)

-- the negative, wrapped: that of the least coordinate is itself
abbrev pub neg : Coord → Coord
neg x = coord (neg_ℤ x.0)

pub add_neg : (x : Coord) → add x (neg x) ≡ coord (pos 0)
add_neg x = coord_is (x.0 +ℤ int_wrap w32 (neg_ℤ x.0)) (pos 0) (int_wrap-add_right w32 x.0 (neg_ℤ x.0) ∙ ap (int_wrap w32) (+ℤ_invr x.0))

pub neg_add : (x : Coord) → add (neg x) x ≡ coord (pos 0)
neg_add x = coord_is (int_wrap w32 (neg_ℤ x.0) +ℤ x.0) (pos 0) (int_wrap-add_left w32 (neg_ℤ x.0) x.0 ∙ ap (int_wrap w32) (+ℤ_invl x.0))

-- the group of the coordinates
abbrev pub coords : Group Coord
coords = record {
  one = coord (pos 0);
  mul = add;
  inv = neg;
  left = add_left;
  right = add_right;
  assoc = add_assoc;
  undo = neg_add;
  undone = add_neg;
}

pub int_cmp_same : (a b : ℤ) → int_cmp a b ≡ Equal → a ≡ b
int_cmp_same a b e = grind (arith, ints)

-- coordinates compare as the integers that they are
abbrev pub coord_order : Order Coord
coord_order = total_order (λ x y. int_cmp x.0 y.0) (on_total (λ (x : Coord). x.0) int_cmp_total) (λ x y e. coord_same x y (int_cmp_same x.0 y.0 e))

-- Translations with small numbers: those with a written form, and those of the cubic lattice. Assumes nothing.
use Rattle.std.proofs.Common.{◌≡◌, ℕ, zero, suc, ◌^◌, ◌≤◌, ℤ, pos, ◌+ℤ◌, nat_abs, sym, refl, ap, ◌∙◌, subst, inl, inr, arith, lit<, lit≤, w32, SFits}
use Rattle.std.specs.Int.{int_wrap}
use Rattle.std.proofs.lemmas.Int.{ints, int_wrap_fits}
use Rattle.label.specs.Group.{both}
use Rattle.lattice.specs.Coord.{Coord, coord, coord_is}
use Rattle.lattice.specs.Triples.{Triple}
use Rattle.mesh.specs.Net.{Line}
use Rattle.mesh.specs.Junction.{Junction, spot}
use Rattle.mesh.specs.Link.{Link, forward}
use Rattle.mesh.specs.Walk.{Walk, stay}
use Rattle.mesh.proofs.Walks.{then_step}
use Rattle.cover.specs.Small.{Small, SmallLabels}
use Rattle.cover.specs.Whole.{Whole, whole}
use Rattle.cover.specs.WholeNet.{whole_line, whole_net}
use Rattle.cover.specs.Cubic.{loop, cubic}
use Rattle.cover.specs.CubicLaws.{CubicLaws}

none : nat_abs (int_wrap w32 (pos 0)) ≤ 500
none = subst (λ z. nat_abs z ≤ 500) (sym (int_wrap_fits w32 (pos 0) (record { sfits = lit< tt }))) (lit≤ tt)

unit : nat_abs (int_wrap w32 (pos 1)) ≤ 500
unit = subst (λ z. nat_abs z ≤ 500) (sym (int_wrap_fits w32 (pos 1) (record { sfits = lit< tt }))) (lit≤ tt)

cubic_small : SmallLabels 500 cubic
cubic_small l (inl e) = subst (λ (m : Line Triple). Small 500 m.label) (sym e) (record { first = unit; second = none; third = none })
cubic_small l (inr (inl e)) = subst (λ (m : Line Triple). Small 500 m.label) (sym e) (record { first = none; second = unit; third = none })
cubic_small l (inr (inr (inl e))) = subst (λ (m : Line Triple). Small 500 m.label) (sym e) (record { first = none; second = none; third = unit })
cubic_small l (inr (inr (inr f))) = absurd f

-- the junction n to the right of the home
abbrev right_of : ℕ → Junction Whole
right_of n = spot 0 (pos n, (pos 0, pos 0))

-- a number, and one that wraps to itself
onward : (z w : ℤ) → SFits w32 w → z +ℤ int_wrap w32 w ≡ z +ℤ w
onward z w f = ap (λ v. z +ℤ v) (int_wrap_fits w32 w f)

one_right : (n : ℕ) → Link whole (whole_net cubic) (right_of n) (right_of (suc n))
one_right n =
    let none : SFits w32 (pos 0) = record { sfits = lit< tt } in
    let unit : SFits w32 (pos 1) = record { sfits = lit< tt } in
    let p : pos (suc n) ≡ pos n +ℤ pos 1 = omega (arith, ints) in
    let q : pos 0 ≡ pos 0 +ℤ pos 0 = omega (arith, ints) in
    forward (whole_line (loop (pos 1) (pos 0) (pos 0))) (inl refl) (record {
      by = (pos n, (pos 0, pos 0));
      starts = refl;
      ends = ap (spot 0) (both (p ∙ sym (onward (pos n) (pos 1) unit)) (both (q ∙ sym (onward (pos 0) (pos 0) none)) (q ∙ sym (onward (pos 0) (pos 0) none))));
    })

walk_right : (n : ℕ) → Walk (Link whole (whole_net cubic)) n (right_of 0) (right_of n)
walk_right zero = stay
walk_right (suc n) = then_step (Link whole (whole_net cubic)) (walk_right n) (one_right n)

round : int_wrap w32 (pos (2 ^ 32)) ≡ int_wrap w32 (pos 0)
unfolding int_wrap
round = refl

pub cubic_laws : CubicLaws
cubic_laws = record {
  small = cubic_small;
  folds = (
    2 ^ 32,
    right_of 0,
    right_of (2 ^ 32),
    walk_right (2 ^ 32),
    λ e. (let p : pos 0 ≡ pos (2 ^ 32) = ap (λ (j : Junction Whole). j.label.0) e in omega (arith, ints)),
    ap (λ (c : Coord). spot 0 (let t : Triple = (c, (coord (pos 0), coord (pos 0))) in t)) (coord_is (pos 0) (pos (2 ^ 32)) (sym round)),
  );
}

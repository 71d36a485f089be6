-- The quarter turn of the plane, and the group of fourfold screws. Assumes nothing.
use Rattle.std.specs.Prelude.{◌≡◌, ℕ, zero, suc, ◌+◌, ◌*◌, ◌/◌, ◌%◌, ◌^◌, ◌<◌, ℤ, pos, negsuc, FitsSigned, unsigned_abs, refl}
use Rattle.std.proofs.Common.{sym, ap, ◌∙◌, subst, zero-add, suc-add, mul-suc, mod-lt, arith, lit<, of_z}
use Rattle.std.proofs.Math.Nat.{div-add-mod}
use Rattle.std.specs.Int.{int_rem_euclid, w32}
use Rattle.std.proofs.lemmas.Int.{wrapping_add_is, of_z-to_z, SFits-int_wrap, int_wrap_fits}
use Rattle.label.specs.Group.{Group, both, pair_group}
use Rattle.label.specs.Order.{Order, pair_order}
use Rattle.lattice.specs.Coord.{Coord, coord, coords, coord_order, add, add_comm, neg}
use Rattle.label.specs.Groups.{inv_inv, inv_one, only_inv}
use Rattle.lattice.specs.Semidirect.{Acts, semidirect}
use Rattle.lattice.specs.Triples.{Made}

abbrev pub Plane : Type 0
Plane = Coord × Coord

-- the place whose coordinates two integers wrap to
abbrev pub place : ℤ → ℤ → Plane
place a b = (coord a, coord b)

abbrev pub planes : Group Plane
planes = pair_group coords coords

-- a quarter turn takes (x, y) to (-y, x)
abbrev pub quarter : Plane → Plane
quarter p = (neg p.1, p.0)

-- so many quarter turns
abbrev pub turns : ℕ → Plane → Plane
turns zero p = p
turns (suc n) p = quarter (turns n p)

-- how many quarter turns a climb makes: only its remainder by 4 counts
abbrev pub quarters : ℤ → ℕ
quarters k = unsigned_abs (int_rem_euclid k (pos 4))

-- a place after the quarter turns of a climb
unfoldable pub turned : Coord → Plane → Plane
turned k p = turns (quarters k.0) p

pub turns_add : (m n : ℕ) (p : Plane) → turns (m + n) p ≡ turns m (turns n p)
turns_add zero n p = ap (λ k. turns k p) (zero-add n)
turns_add (suc m) n p = ap (λ k. turns k p) (suc-add m n) ∙ ap quarter (turns_add m n p)

turns_four : (p : Plane) → turns 4 p ≡ p
turns_four p = both (inv_inv coords p.0) (inv_inv coords p.1)

turns_fours : (q : ℕ) (p : Plane) → turns (4 * q) p ≡ p
turns_fours zero p = refl
turns_fours (suc q) p = ap (λ k. turns k p) (mul-suc 4 q) ∙ turns_add (4 * q) 4 p ∙ ap (turns (4 * q)) (turns_four p) ∙ turns_fours q p

-- turns that differ by whole rounds are the same
turns_rounds : (q n : ℕ) (p : Plane) → turns (4 * q + n) p ≡ turns n p
turns_rounds q n p = turns_add (4 * q) n p ∙ turns_fours q (turns n p)

turns_mod : (n : ℕ) (p : Plane) → turns (n % 4) p ≡ turns n p
turns_mod n p = sym (turns_rounds (n / 4) (n % 4) p) ∙ ap (λ k. turns k p) (div-add-mod n 4)

turns_wrapped : (n : ℕ) (p : Plane) → turns (n % 2 ^ 32) p ≡ turns n p
turns_wrapped n p =
    let e : 4 * (1073741824 * (n / 2 ^ 32)) + n % 2 ^ 32 ≡ n = omega arith in
    sym (turns_rounds (1073741824 * (n / 2 ^ 32)) (n % 2 ^ 32) p) ∙ ap (λ k. turns k p) e

coord_fits : (x : Coord) → FitsSigned w32 x.0
coord_fits x = subst (FitsSigned w32) x.1 (SFits-int_wrap w32 x.0)

-- the 32 bits of an integer have its remainder by 4
bits_quarters : (z : ℤ) → FitsSigned w32 z → quarters z ≡ of_z w32 z % 4
bits_quarters (pos n) f = refl
bits_quarters (negsuc n) f = let h : n < 2 ^ 31 = f.sfits in omega arith

turned_bits : (k : Coord) (p : Plane) → turned k p ≡ turns (of_z w32 k.0) p
unfolding turned
turned_bits k p = ap (λ n. turns n p) (bits_quarters k.0 (coord_fits k)) ∙ turns_mod (of_z w32 k.0) p

bits_add : (h k : Coord) → of_z w32 (add h k).0 ≡ (of_z w32 h.0 + of_z w32 k.0) % 2 ^ 32
bits_add h k =
    let n = of_z w32 h.0 + of_z w32 k.0 in
    ap (of_z w32) (sym (wrapping_add_is w32 h.0 k.0 (coord_fits h) (coord_fits k))) ∙ of_z-to_z w32 (n % 2 ^ 32) (mod-lt n (lit< tt))

turned_twice : (h k : Coord) (p : Plane) → turned (add h k) p ≡ turned h (turned k p)
turned_twice h k p =
    let a = of_z w32 h.0 in
    let b = of_z w32 k.0 in
    turned_bits (add h k) p ∙ ap (λ n. turns n p) (bits_add h k) ∙ turns_wrapped (a + b) p ∙ turns_add a b p
    ∙ sym (turned_bits h (turns b p)) ∙ sym (ap (turned h) (turned_bits k p))

neg_splits : (x y : Coord) → neg (add x y) ≡ add (neg x) (neg y)
neg_splits x y = sym (only_inv coords (add (neg x) (neg y)) (add x y)
    (ap (add (add (neg x) (neg y))) (add_comm x y) ∙ coords.assoc (neg x) (neg y) (add y x)
    ∙ ap (add (neg x)) (sym (coords.assoc (neg y) y x) ∙ ap (λ w. add w x) (coords.undo y) ∙ coords.left x) ∙ coords.undo x))

turns_splits : (n : ℕ) (p q : Plane) → turns n (planes.mul p q) ≡ planes.mul (turns n p) (turns n q)
turns_splits zero p q = refl
turns_splits (suc n) p q = ap quarter (turns_splits n p q) ∙ both (neg_splits (turns n p).1 (turns n q).1) refl

turns_fixed : (n : ℕ) → turns n planes.one ≡ planes.one
turns_fixed zero = refl
turns_fixed (suc n) = ap quarter (turns_fixed n) ∙ both (inv_one coords) refl

-- the turn by the coordinate that an integer wraps to
pub turned_by : (k : ℤ) (p : Plane) → FitsSigned w32 k → turned (coord k) p ≡ turns (quarters k) p
unfolding turned
turned_by k p f = ap (λ (z : ℤ). turns (quarters z) p) (int_wrap_fits w32 k f)

-- climbs act on the plane by their turns
pub turning : Acts planes coords turned
unfolding turned
turning = record {
  still = λ p. turned_by (pos 0) p (record { sfits = lit< tt });
  twice = turned_twice;
  splits = λ h. turns_splits (quarters h.0);
  fixed = λ h. turns_fixed (quarters h.0);
}

-- a fourfold screw: a shift of the plane, and a climb that turns what follows
abbrev pub ScrewMotion : Type 0
ScrewMotion = Plane × Coord

abbrev pub screws : Group ScrewMotion
screws = semidirect planes coords turned turning

-- by the first coordinate of the shift, then by its second, then by the climb
abbrev pub screw_order : Order ScrewMotion
screw_order = pair_order (pair_order coord_order coord_order) coord_order

-- a screw is made of the two coordinates of its shift and its climb
abbrev pub screw_made : Made ScrewMotion
screw_made = record {
  whole = λ t. ((t.0, t.1.0), t.1.1);
  parts = λ s. (s.0.0, (s.0.1, s.1));
  parts_whole = λ t. refl;
  whole_parts = λ s. refl;
}

-- Wrapping arithmetic is that of the coordinates.
use Rattle.std.proofs.Common.{◌≡◌, ◌+◌, ◌%◌, ℤ, ◌+ℤ◌, neg_ℤ, FitsSigned, of_z, to_z, sym, ap, ◌∙◌}
use Rattle.std.specs.Int.{int_wrap, int_wrapping_neg, w32}
use Rattle.std.proofs.lemmas.Int.{wrapping_add_is, wrapping_neg_is, int_wrap_fits, to_z-of_z, SFits-int_wrap}
use Rattle.lattice.specs.Coord.{coord, coord_is, wrapped_twice, add, add_coord, neg}

pub coord_sum : (a b : ℤ) → FitsSigned w32 a → FitsSigned w32 b → coord (to_z w32 ((of_z w32 a + of_z w32 b) % 4294967296)) ≡ add (coord a) (coord b)
coord_sum a b f g =
    ap coord (wrapping_add_is w32 a b f g) ∙ coord_is _ (a +ℤ b) (wrapped_twice (a +ℤ b)) ∙ add_coord a b

pub coord_neg : (a : ℤ) → FitsSigned w32 a → coord (to_z w32 (of_z w32 (int_wrapping_neg w32 (to_z w32 (of_z w32 a))))) ≡ neg (coord a)
coord_neg a f =
    let k : int_wrapping_neg w32 (to_z w32 (of_z w32 a)) ≡ int_wrap w32 (neg_ℤ a) = ap (int_wrapping_neg w32) (to_z-of_z w32 a f) ∙ wrapping_neg_is w32 a f in
    ap (λ z. coord (to_z w32 (of_z w32 z))) k ∙ ap coord (to_z-of_z w32 (int_wrap w32 (neg_ℤ a)) (SFits-int_wrap w32 (neg_ℤ a)))
    ∙ coord_is _ (neg_ℤ a) (wrapped_twice (neg_ℤ a)) ∙ ap (λ z. coord (neg_ℤ z)) (sym (int_wrap_fits w32 a f))

pub coord_stored : (a : ℤ) → FitsSigned w32 a → coord (to_z w32 (of_z w32 a)) ≡ coord a
coord_stored a f = ap coord (to_z-of_z w32 a f)

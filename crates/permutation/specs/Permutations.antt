-- The group of the permutations of the points 0 to 7, their order and their written form. Assumes nothing.
use Rattle.std.specs.Prelude.{ℕ, true, refl}
use Rattle.std.proofs.Common.{lit≤}
use Rattle.label.specs.Group.{Group}
use Rattle.label.specs.Order.{Order}
use Rattle.label.specs.Form.{Form}
use Rattle.symmetric.specs.Images.{Perm, unmoved, followed, undone}
use Rattle.symmetric.specs.Packing.{chosen}
use Rattle.label.specs.NumberOrder.{number_order, order_by}
use Rattle.symmetric.specs.FromLeft.{row, row_order}
use Rattle.symmetric.specs.Written.{image_slots, perm_read, perm_told}
use Rattle.symmetric.proofs.Laws.{perm_same, permutes_unmoved, permutes_followed, permutes_undone, followed_left, followed_right, followed_assoc, followed_undone, undone_followed}
use Rattle.symmetric.proofs.Packed.{permutes_chosen}
use Rattle.symmetric.proofs.Compared.{perms_apart}
use Rattle.symmetric.proofs.Written.{written_again, read_back}

abbrev pub one : Perm
one = (unmoved, permutes_unmoved)

-- p first, and then q
abbrev pub mul : Perm → Perm → Perm
mul p q = (followed p.0 q.0, permutes_followed p q)

abbrev pub inv : Perm → Perm
inv p = (undone p.0, permutes_undone p)

abbrev pub perm_group : Group Perm
perm_group = record {
  one = one;
  mul = mul;
  inv = inv;
  left = λ p. perm_same (mul one p) p (followed_left p);
  right = λ p. perm_same (mul p one) p (followed_right p);
  assoc = λ p q r. perm_same (mul (mul p q) r) (mul p (mul q r)) (followed_assoc p q r);
  undo = λ p. perm_same (mul (inv p) p) one (undone_followed p);
  undone = λ p. perm_same (mul p (inv p)) one (followed_undone p);
}

-- by the images, from the left
abbrev pub perm_order : Order Perm
perm_order = order_by (λ p. row 8 p.0) perms_apart (row_order number_order 8)

-- the eight images
abbrev pub perm_form : Form Perm
perm_form = record {
  slots = image_slots;
  few = lit≤ tt;
  stored = refl;
  able = true;
  means = perm_read;
  tells = perm_told;
  again = written_again;
  back = read_back;
}

-- the permutation that a number stands for: the one that it packs, and else the identity
abbrev pub perm_packed : ℕ → Perm
perm_packed n = (chosen n, permutes_chosen n)

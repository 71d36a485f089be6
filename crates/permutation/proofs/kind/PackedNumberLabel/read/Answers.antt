use Rattle.std.proofs.Common.{◌≡◌, ℕ, Bool, true, ◌&&◌, eqb, List, map, length, ℤ, pos, Some, None, Ok, Err, Option, sym, refl, ap, ◌∙◌, subst, rules}
use Rattle.std.proofs.lemmas.Bool.{and_right}
use Rattle.label.specs.Form.{fit}
use Rattle.label.specs.Clauses.{ReadAs}
use Rattle.label.specs.declared.refusals.LabelFault.TheVariants.{NoPermutation}
use Rattle.symmetric.specs.Images.{points, each_once}
use Rattle.symmetric.specs.Written.{image_slots, perm_read}
use Rattle.symmetric.proofs.Laws.{perm_same, permutes_from}
use Rattle.symmetric.proofs.Written.{fit_points, perm_read_yes, perm_read_no}
use Rattle.permutation.proofs.kind.PackedNumberLabel.read.Goals as goal

module _ {L M : Type 0} (stands : L → M) {b : Bool} {o : Option M} (inside : b ≡ true) where
  refused : o ≡ None → ReadAs stands b o (Err NoPermutation)
  refused e = subst (λ (x : Bool). ReadAs stands x o (Err NoPermutation)) (sym inside) (subst (λ (x : Option M). ReadAs stands true x (Err NoPermutation)) (sym e) refl)

  taken : (l : L) (m : M) → o ≡ Some m → stands l ≡ m → ReadAs stands b o (Ok l)
  taken l m e s = subst (λ (x : Bool). ReadAs stands x o (Ok l)) (sym inside) (subst (λ (x : Option M). ReadAs stands true x (Ok l)) (sym e) s)

ranged : (xs : List ℕ) (zs : List ℤ) → zs ≡ map pos xs → length xs ≡ 8 → points xs ≡ true → fit image_slots zs ≡ true
ranged xs zs e l p = ap (fit image_slots) e ∙ fit_points 8 xs l p

pub returns-then-not-all_once : goal.returns-then-not-all_once
returns-then-not-all_once c =
    let xs = c.in_ok-images.images in
    let l : length xs ≡ 8 = search rules in
    let e = rw c.in_ok-images.ensures.ok_part at c.images_in.ensures in
    refused _ (ranged xs c.args.numbers.now e.0 l e.1)
    (ap perm_read e.0 ∙ perm_read_no xs (and_right (eqb (length xs) 8) (points xs && each_once xs) (and_right (points xs) (each_once xs) (sym c.if-not-all_once.ensures))))

pub returns : goal.returns
returns c =
    let xs = c.in_ok-images.images in
    let l : length xs ≡ 8 = search rules in
    let e = rw c.in_ok-images.ensures.ok_part at c.images_in.ensures in
    let g = permutes_from xs l e.1 (sym c.if-not-all_once.ensures) in
    taken _ (ranged xs c.args.numbers.now e.0 l e.1) c.into.result (xs, g) (ap perm_read e.0 ∙ perm_read_yes xs g)
    (c.into.ensures.0 ∙ perm_same _ _ c.with_images.ensures)

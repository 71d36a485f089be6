-- What holds in every group. Assumes nothing.
use Rattle.std.specs.Prelude.{◌≡◌}
use Rattle.std.proofs.Common.{sym, ap, ◌∙◌}
use Rattle.label.specs.Group.{Group}

module _ {A : Type 0} (G : Group A) where
  pub inv_inv : (x : A) → G.inv (G.inv x) ≡ x
  inv_inv x =
      sym (G.right (G.inv (G.inv x))) ∙ ap (G.mul (G.inv (G.inv x))) (sym (G.undo x))
      ∙ sym (G.assoc (G.inv (G.inv x)) (G.inv x) x) ∙ ap (λ y. G.mul y x) (G.undo (G.inv x)) ∙ G.left x

  pub inv_one : G.inv G.one ≡ G.one
  inv_one = sym (G.right (G.inv G.one)) ∙ G.undo G.one

  -- an element that undoes another is its inverse
  pub only_inv : (a b : A) → G.mul a b ≡ G.one → a ≡ G.inv b
  only_inv a b e =
      sym (G.right a) ∙ ap (G.mul a) (sym (G.undone b)) ∙ sym (G.assoc a b (G.inv b))
      ∙ ap (λ y. G.mul y (G.inv b)) e ∙ G.left (G.inv b)

-- What follows from the laws of a group.
use Rattle.std.proofs.Common.{◌≡◌, sym, ap, ◌∙◌}
use Rattle.label.specs.Group.{Group}

module _ {M : Type 0} (G : Group M) where
  pub there_and_back : (h g : M) → G.mul (G.mul h g) (G.inv g) ≡ h
  there_and_back h g = G.assoc h g (G.inv g) ∙ ap (G.mul h) (G.undone g) ∙ G.right h

  pub back_and_there : (h g : M) → G.mul (G.mul h (G.inv g)) g ≡ h
  back_and_there h g = G.assoc h (G.inv g) g ∙ ap (G.mul h) (G.undo g) ∙ G.right h

  pub off_left : (h x y : M) → G.mul h x ≡ G.mul h y → x ≡ y
  off_left h x y e = sym (gone x) ∙ ap (G.mul (G.inv h)) e ∙ gone y
    where
      gone : (z : M) → G.mul (G.inv h) (G.mul h z) ≡ z
      gone z = sym (G.assoc (G.inv h) h z) ∙ ap (λ w. G.mul w z) (G.undo h) ∙ G.left z

  pub inv_one : (g : M) → G.inv g ≡ G.one → g ≡ G.one
  inv_one g e = sym (G.left g) ∙ ap (λ x. G.mul x g) (sym e) ∙ G.undo g

  pub stays_one : (h g : M) → h ≡ G.mul h g → g ≡ G.one
  stays_one h g e = off_left h g G.one (sym e ∙ sym (G.right h))

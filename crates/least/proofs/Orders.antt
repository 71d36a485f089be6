-- What follows of any total order.
use Rattle.std.proofs.Common.{◌≡◌, ℕ, ◌⊎◌, Ordering, Less, Equal, Greater, refl, ap, ◌∙◌, inl, inr, arith}
use Rattle.std.specs.Ordering.{ordering_reverse}
use Rattle.label.specs.Order.{Order}

module _ {R : Type 0} (O : Order R) where
  pub not_itself : (x : R) → O.cmp x x ≡ Less → ⊥
  not_itself x e = let z : ◌≡◌ {A = ℕ} 0 1 = cc (O.itself x) in omega arith

  -- of two elements one is less, or they are the same
  pub either_way : (x y : R) → (O.cmp x y ≡ Less) ⊎ ((x ≡ y) ⊎ (O.cmp y x ≡ Less))
  either_way x y = go (O.cmp x y) refl
    where
      go : (o : Ordering) → O.cmp x y ≡ o → (O.cmp x y ≡ Less) ⊎ ((x ≡ y) ⊎ (O.cmp y x ≡ Less))
      go Less e = inl e
      go Equal e = inr (inl (O.same x y e))
      go Greater e = inr (inr (O.turned x y ∙ ap ordering_reverse e))

-- Total orders, and the order of pairs. Assumes nothing.
use Rattle.std.specs.Prelude.{◌≡◌, ℕ, ◌⊎◌, refl}
use Rattle.std.specs.declared.cmp.Ordering.TheVariants.{Less, Equal, Greater}
use Rattle.std.specs.declared.cmp.Ordering.{Ordering}
use Rattle.std.proofs.Common.{sym, ap, ◌∙◌, subst, inl, inr, arith}
use Rattle.std.specs.Ordering.{ordering_reverse, ordering_then}
use Rattle.std.specs.Cmp.{IsTotalOrder}
use Rattle.label.specs.Group.{both}

-- a comparison that is a total order, and says `Equal` exactly of equal elements
pub record Order (M : Type 0) : Type 0 where
  pub cmp : M → M → Ordering
  pub itself : (x : M) → cmp x x ≡ Equal
  pub same : (x y : M) → cmp x y ≡ Equal → x ≡ y
  pub turned : (x y : M) → cmp y x ≡ ordering_reverse (cmp x y)
  pub chain : (x y z : M) → cmp x y ≡ Less → cmp y z ≡ Less → cmp x z ≡ Less

apart_le : Less ≡ Equal → ⊥
apart_le e = let z : ◌≡◌ {A = ℕ} 0 1 = cc in omega arith

apart_ge : Greater ≡ Equal → ⊥
apart_ge e = let z : ◌≡◌ {A = ℕ} 0 1 = cc in omega arith

apart_gl : Greater ≡ Less → ⊥
apart_gl e = let z : ◌≡◌ {A = ℕ} 0 1 = cc in omega arith

pub own_reverse : (j : Ordering) → j ≡ ordering_reverse j → j ≡ Equal
own_reverse Less e = absurd (apart_gl (sym e))
own_reverse Equal e = refl
own_reverse Greater e = absurd (apart_gl e)

-- a total order of the library whose `Equal` is said exactly of equal elements
abbrev pub total_order : {M : Type 0} (cmp : M → M → Ordering) → IsTotalOrder cmp → ((x y : M) → cmp x y ≡ Equal → x ≡ y) → Order M
total_order c laws same = record {
  cmp = c;
  itself = λ x. own_reverse (c x x) (laws.antisymm x x);
  same = same;
  turned = λ x y. laws.antisymm y x;
  chain = laws.trans;
}

then_equal : (j k : Ordering) → ordering_then j k ≡ Equal → (j ≡ Equal) × (k ≡ Equal)
then_equal Less k e = absurd (apart_le e)
then_equal Equal k e = (refl, e)
then_equal Greater k e = absurd (apart_ge e)

then_less : (j k : Ordering) → ordering_then j k ≡ Less → (j ≡ Less) ⊎ ((j ≡ Equal) × (k ≡ Less))
then_less Less k e = inl refl
then_less Equal k e = inr (refl, e)
then_less Greater k e = absurd (apart_gl e)

pub then_reversed : (j k : Ordering) → ordering_then (ordering_reverse j) (ordering_reverse k) ≡ ordering_reverse (ordering_then j k)
then_reversed Less k = refl
then_reversed Equal k = refl
then_reversed Greater k = refl

pub then_is : {j j' k k' : Ordering} → j ≡ j' → k ≡ k' → ordering_then j k ≡ ordering_then j' k'
then_is {j} {j'} {k} {k'} p q = ap (λ x. ordering_then x k) p ∙ ap (ordering_then j') q

module _ {A B : Type 0} (O : Order A) (P : Order B) where
  -- by the first parts, and by the second where those are the same
  abbrev pub pair_cmp : A × B → A × B → Ordering
  pair_cmp x y = ordering_then (O.cmp x.0 y.0) (P.cmp x.1 y.1)

  pub pair_same : (x y : A × B) → pair_cmp x y ≡ Equal → x ≡ y
  pair_same x y e =
      let s = then_equal (O.cmp x.0 y.0) (P.cmp x.1 y.1) e in
      both (O.same x.0 y.0 s.0) (P.same x.1 y.1 s.1)

  pub pair_chain : (x y z : A × B) → pair_cmp x y ≡ Less → pair_cmp y z ≡ Less → pair_cmp x z ≡ Less
  pair_chain x y z e f =
      elim (then_less (O.cmp x.0 y.0) (P.cmp x.1 y.1) e) [
        | inl l ↦ elim (then_less (O.cmp y.0 z.0) (P.cmp y.1 z.1) f) [
          | inl m ↦ then_is (O.chain x.0 y.0 z.0 l m) refl
          | inr m ↦ then_is (subst (λ w. O.cmp x.0 w ≡ Less) (O.same y.0 z.0 m.0) l) refl
        ]
        | inr l ↦ elim (then_less (O.cmp y.0 z.0) (P.cmp y.1 z.1) f) [
          | inl m ↦ then_is (subst (λ w. O.cmp w z.0 ≡ Less) (sym (O.same x.0 y.0 l.0)) m) refl
          | inr m ↦ then_is (subst (λ w. O.cmp w z.0 ≡ Equal) (sym (O.same x.0 y.0 l.0)) m.0) (P.chain x.1 y.1 z.1 l.1 m.1)
        ]
      ]

  -- the order of pairs
  abbrev pub pair_order : Order (A × B)
  pair_order = record {
    cmp = pair_cmp;
    itself = λ x. then_is (O.itself x.0) (P.itself x.1);
    same = pair_same;
    turned = λ x y. then_is (O.turned x.0 y.0) (P.turned x.1 y.1) ∙ then_reversed (O.cmp x.0 y.0) (P.cmp x.1 y.1);
    chain = pair_chain;
  }

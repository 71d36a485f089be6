-- Groups, and the group of pairs. Assumes nothing.
use Rattle.std.specs.Prelude.{◌≡◌}
use Rattle.std.proofs.Common.{ap, ◌∙◌}

-- a group: a product with an identity and inverses
pub record Group (M : Type 0) : Type 0 where
  pub one : M
  pub mul : M → M → M
  pub inv : M → M
  -- the identity changes nothing on either side
  pub left : (x : M) → mul one x ≡ x
  pub right : (x : M) → mul x one ≡ x
  pub assoc : (x y z : M) → mul (mul x y) z ≡ mul x (mul y z)
  -- an element times its inverse is the identity, on either side
  pub undo : (x : M) → mul (inv x) x ≡ one
  pub undone : (x : M) → mul x (inv x) ≡ one

-- pairs with equal parts are equal
pub both : {A B : Type 0} {a c : A} {b d : B} → a ≡ c → b ≡ d → ◌≡◌ {A = A × B} (a, b) (c, d)
both {A} {B} {a} {c} {b} {d} p q = ap (λ (x : A). let r : A × B = (x, b) in r) p ∙ ap (λ (y : B). let r : A × B = (c, y) in r) q

-- the group of pairs, part by part
abbrev pub pair_group : {A B : Type 0} → Group A → Group B → Group (A × B)
pair_group G H = record {
  one = (G.one, H.one);
  mul = λ x y. (G.mul x.0 y.0, H.mul x.1 y.1);
  inv = λ x. (G.inv x.0, H.inv x.1);
  left = λ x. both (G.left x.0) (H.left x.1);
  right = λ x. both (G.right x.0) (H.right x.1);
  assoc = λ x y z. both (G.assoc x.0 y.0 z.0) (H.assoc x.1 y.1 z.1);
  undo = λ x. both (G.undo x.0) (H.undo x.1);
  undone = λ x. both (G.undone x.0) (H.undone x.1);
}

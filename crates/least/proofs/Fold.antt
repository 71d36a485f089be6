-- One entry more: the least above the floor is kept, or the entry takes its place.
use Rattle.std.proofs.Common.{◌≡◌, ℕ, ◌+◌, ◌<◌, Bool, true, false, MatchBool, List, [], ◌∷◌, ◌++◌, length, get_or, take, Some, None, Option, sym, refl, ap, ◌∙◌, subst, subst₂, inl, inr}
use Rattle.std.specs.Prelude.{MatchOption}
use Rattle.std.proofs.lemmas.Bool.{false≢true}
use Rattle.std.proofs.lemmas.List.{take_more}
use Rattle.label.specs.Order.{Order}
use Rattle.mesh.specs.Listed.{In}
use Rattle.mesh.proofs.Lists.{in_left, in_right, in_push}
use Rattle.least.specs.Bounds.{Lower, Above, Below}
use Rattle.least.specs.Least.{LeastClause}
use Rattle.least.proofs.Orders.{not_itself}

module _ {T R : Type 0} (O : Order R) (rank : T → R) (x : T) where
  -- whether x is above the floor, as it is asked of a bound if there is one
  pub above_floor : (f : Option T) (b : Bool) → MatchOption f (b ≡ true) (λ m. MatchBool b (Lower O rank m x) (Lower O rank m x → ⊥)) → (b ≡ true → Above O rank f x) × (b ≡ false → Above O rank f x → ⊥)
  above_floor None b e = ((λ y. tt), (λ n a. false≢true (sym n ∙ e)))
  above_floor (Some m) true e = ((λ y. e), (λ n a. false≢true (sym n)))
  above_floor (Some m) false e = ((λ y. absurd (false≢true y)), (λ n. e))

  -- whether x is below the least so far, as it is asked of a bound if there is one
  pub below_least : (l : Option T) (b : Bool) → MatchOption l (b ≡ true) (λ m. MatchBool b (Lower O rank x m) (Lower O rank x m → ⊥)) → (b ≡ true → Below O rank x l) × (b ≡ false → Below O rank x l → ⊥)
  below_least None b e = ((λ y. tt), (λ n a. false≢true (sym n ∙ e)))
  below_least (Some m) true e = ((λ y. e), (λ n a. false≢true (sym n)))
  below_least (Some m) false e = ((λ y. absurd (false≢true y)), (λ n. e))

module _ {T R : Type 0} (O : Order R) (rank : T → R) (xs : List T) (floor : Option T) (x : T) where
  -- no entry, with x among them, ranks between the floor and x, if none did between the floor and the least so far
  none_lower : (least : Option T) → LeastClause O rank xs floor least → Below O rank x least → (y : T) → In y (xs ++ (x ∷ [])) → Above O rank floor y → Lower O rank y x → ⊥
  none_lower least so_far below y i above lower =
      elim (in_push y xs x i) [
        | inl j ↦ before least so_far below j
        | inr e ↦ not_itself O (rank x) (subst (λ (z : T). Lower O rank z x) e lower)
      ]
    where
      before : (l : Option T) → LeastClause O rank xs floor l → Below O rank x l → In y xs → ⊥
      before None none b j = none y j above
      before (Some m) s b j = s.least y j above (O.chain (rank y) (rank x) (rank m) lower b)

  -- x is above the floor and below the least so far: x is the least
  pub taken : (least : Option T) → LeastClause O rank xs floor least → Above O rank floor x → Below O rank x least → LeastClause O rank (xs ++ (x ∷ [])) floor (Some x)
  taken least so_far above below = record {
    found = in_right x xs (x ∷ []) (inl refl);
    above = above;
    least = none_lower least so_far below;
  }

  -- x is not above the floor, or not below the least so far: that is the least
  pub kept : (least : Option T) → LeastClause O rank xs floor least → (Above O rank floor x → Below O rank x least → ⊥) → LeastClause O rank (xs ++ (x ∷ [])) floor least
  kept None none not_x = λ y i above. elim (in_push y xs x i) [
    | inl j ↦ none y j above
    | inr e ↦ not_x (subst (λ (z : T). Above O rank floor z) e above) tt
  ]
  kept (Some m) s not_x = record {
    found = in_left m xs (x ∷ []) s.found;
    above = s.above;
    least = λ y i above lower. elim (in_push y xs x i) [
      | inl j ↦ s.least y j above lower
      | inr e ↦ not_x (subst (λ (z : T). Above O rank floor z) e above) (subst (λ (z : T). Lower O rank z m) e lower)
    ];
  }

-- the first i entries and the next are the first i + 1
pub one_more : {T R : Type 0} (O : Order R) (rank : T → R) (entries : List T) (floor : Option T) (i : ℕ) (x : T) → i < length entries → x ≡ get_or entries i x → (least least' : Option T) → least' ≡ least → LeastClause O rank (take i entries ++ (x ∷ [])) floor least → LeastClause O rank (take (i + 1) entries) floor least'
one_more {T} O rank entries floor i x inside read least least' e s =
    let more : take i entries ++ (x ∷ []) ≡ take (i + 1) entries = sym (take_more entries i x inside ∙ ap (λ (y : T). take i entries ++ (y ∷ [])) (sym read)) in
    subst₂ (λ (xs : List T) (l : Option T). LeastClause O rank xs floor l) more (sym e) s

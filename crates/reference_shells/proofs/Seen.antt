-- The tests of the search decide what stands in a list, and what is new.
use Rattle.std.proofs.Common.{◌≡◌, Bool, true, false, cond, ◌&&◌, ◌||◌, eqb, List, [], ◌∷◌, Ordering, Less, Equal, Greater, sym, refl, ap, ◌∙◌, subst, inl, inr}
use Rattle.std.proofs.lemmas.Bool.{and_parts, both_ways, eqb-true, eq-eqb}
use Rattle.label.specs.Group.{Group}
use Rattle.label.specs.Order.{Order}
use Rattle.mesh.specs.Listed.{In}
use Rattle.mesh.specs.Exactly.{Distinct}
use Rattle.mesh.specs.Net.{Net}
use Rattle.mesh.specs.Junction.{Junction}
use Rattle.mesh.specs.Target.{neighbours}
use Rattle.mesh.proofs.Lists.{in_left, in_right, in_either}
use Rattle.reference_shells.specs.BreadthFirst.{is_equal, same_junction, stands, unseen, all_neighbours}

equal_is : (o : Ordering) → is_equal o ≡ true → o ≡ Equal
equal_is Less e = absurd (both_ways false refl e)
equal_is Equal e = refl
equal_is Greater e = absurd (both_ways false refl e)

module _ {M : Type 0} (O : Order M) where
  same_is : (a b : Junction M) → same_junction O a b ≡ true → a ≡ b
  same_is a b e =
      let p = and_parts (eqb a.node b.node) (is_equal (O.cmp a.label b.label)) e in
      let n = eqb-true a.node b.node p.0 in
      let l = O.same a.label b.label (equal_is (O.cmp a.label b.label) p.1) in
      λ i. record { node = n i; label = l i }

  itself_same : (a : Junction M) → same_junction O a a ≡ true
  itself_same a =
      ap (λ (t : Bool). t && is_equal (O.cmp a.label a.label)) (eq-eqb a.node a.node refl) ∙ ap is_equal (O.itself a.label)

  -- what the test finds stands in the list
  pub found : (a : Junction M) (bs : List (Junction M)) → stands O a bs ≡ true → In a bs
  found a [] e = absurd (both_ways false refl e)
  found a (b ∷ bs) e = go (found a bs) (same_junction O a b) refl e
    where
      go : (stands O a bs ≡ true → In a bs) → (t : Bool) → same_junction O a b ≡ t → (t || stands O a bs) ≡ true → In a (b ∷ bs)
      go f true p q = inl (same_is a b p)
      go f false p q = inr (f q)

  -- what stands in the list is found
  pub finds : (a : Junction M) (bs : List (Junction M)) → In a bs → stands O a bs ≡ true
  finds a [] i = absurd i
  finds a (b ∷ bs) (inl p) = ap (λ (t : Bool). t || stands O a bs) (subst (λ (c : Junction M). same_junction O a c ≡ true) p (itself_same a))
  finds a (b ∷ bs) (inr i) = go (finds a bs i) (same_junction O a b)
    where
      go : stands O a bs ≡ true → (t : Bool) → (t || stands O a bs) ≡ true
      go e true = refl
      go e false = e

  -- what of `xs` does not stand in `seen`, each once
  pub record Unseen (seen xs ys : List (Junction M)) : Type 0 where
    pub distinct : Distinct ys
    pub from : (z : Junction M) → In z ys → In z xs
    pub new : (z : Junction M) → In z ys → In z seen → ⊥
    pub kept : (z : Junction M) → In z xs → (In z seen → ⊥) → In z ys

  skipped : (seen xs ys : List (Junction M)) (x : Junction M) → In x seen → Unseen seen xs ys → Unseen seen (x ∷ xs) ys
  skipped seen xs ys x h r = record {
    distinct = r.distinct;
    from = λ z i. inr (r.from z i);
    new = r.new;
    kept = λ z i f. elim i [ inl p ↦ absurd (f (subst (λ (w : Junction M). In w seen) (sym p) h)) | inr j ↦ r.kept z j f ];
  }

  taken : (seen xs ys : List (Junction M)) (x : Junction M) → (In x seen → ⊥) → Unseen (x ∷ seen) xs ys → Unseen seen (x ∷ xs) (x ∷ ys)
  taken seen xs ys x h r = record {
    distinct = (λ i. r.new x i (inl refl), r.distinct);
    from = λ z i. elim i [ inl p ↦ inl p | inr j ↦ inr (r.from z j) ];
    new = λ z i k. elim i [ inl p ↦ h (subst (λ (w : Junction M). In w seen) p k) | inr j ↦ r.new z j (inr k) ];
    kept = λ z i f. elim i [ inl p ↦ inl p | inr j ↦ again z j f (same_junction O z x) refl ];
  }
    where
      again : (z : Junction M) → In z xs → (In z seen → ⊥) → (t : Bool) → same_junction O z x ≡ t → In z (x ∷ ys)
      again z j f true p = inl (same_is z x p)
      again z j f false p =
          inr (r.kept z j (λ k. elim k [
            | inl q ↦ both_ways false refl (sym p ∙ subst (λ (w : Junction M). same_junction O z w ≡ true) q (itself_same z))
            | inr l ↦ f l
          ]))

  pub unseen_is : (seen xs : List (Junction M)) → Unseen seen xs (unseen O seen xs)
  unseen_is seen [] = record { distinct = tt; from = λ z i. i; new = λ z i k. i; kept = λ z i f. i }
  unseen_is seen (x ∷ xs) = go (unseen_is seen xs) (unseen_is (x ∷ seen) xs) (stands O x seen) refl
    where
      go : Unseen seen xs (unseen O seen xs) → Unseen (x ∷ seen) xs (unseen O (x ∷ seen) xs) → (t : Bool) → stands O x seen ≡ t → Unseen seen (x ∷ xs) (cond t (unseen O seen xs) (x ∷ unseen O (x ∷ seen) xs))
      go r s true e = skipped seen xs (unseen O seen xs) x (found x seen e) r
      go r s false e = taken seen xs (unseen O (x ∷ seen) xs) x (λ i. both_ways (stands O x seen) e (finds x seen i)) s

module _ {M : Type 0} (G : Group M) (net : Net M) where
  -- a neighbour of the list is a neighbour of something in it, and back
  pub near_of : (b : Junction M) (cs : List (Junction M)) → In b (all_neighbours G net cs) → (a : Junction M) × In a cs × In b (neighbours G net a)
  near_of b [] i = absurd i
  near_of b (c ∷ cs) i =
      elim (in_either b (neighbours G net c) (all_neighbours G net cs) i) [
        | inl j ↦ (c, inl refl, j)
        | inr j ↦ let r = near_of b cs j in (r.0, inr r.1, r.2)
      ]

  pub of_near : (b a : Junction M) (cs : List (Junction M)) → In a cs → In b (neighbours G net a) → In b (all_neighbours G net cs)
  of_near b a [] i j = absurd i
  of_near b a (c ∷ cs) (inl e) j =
      in_left b (neighbours G net c) (all_neighbours G net cs) (subst (λ (x : Junction M). In b (neighbours G net x)) e j)
  of_near b a (c ∷ cs) (inr i) j = in_right b (neighbours G net c) (all_neighbours G net cs) (of_near b a cs i j)

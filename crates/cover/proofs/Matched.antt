-- Lists of things with a property, and the lists to which a map takes them. Assumes nothing.
use Rattle.std.proofs.Common.{◌≡◌, ℕ, ◌↔◌, List, [], ◌∷◌, map, length, sym, refl, ap, ◌∙◌, subst, inl, inr}
use lib.ListN.{length-map}
use Rattle.mesh.specs.Listed.{In}
use Rattle.mesh.specs.Exactly.{Distinct, Exactly, Many}
use Rattle.mesh.proofs.Lists.{in_map, from_map}

-- a map that tells the members of a list apart keeps it without repetition
pub distinct_on : {I J : Type 0} (f : I → J) (xs : List I) → ((x y : I) → In x xs → In y xs → f x ≡ f y → x ≡ y) → Distinct xs → Distinct (map f xs)
distinct_on f [] one d = tt
distinct_on {I} f (x ∷ xs) one d = (
  λ i. let r = from_map f (f x) xs i in d.0 (subst (λ (z : I). In z xs) (sym (one x r.0 (inl refl) (inr r.1) r.2)) r.1),
  distinct_on f xs (λ y z i j e. one y z (inr i) (inr j) e) d.1,
)

-- a list that goes to one without repetition has none
pub distinct_back : {I J : Type 0} (f : I → J) (xs : List I) → Distinct (map f xs) → Distinct xs
distinct_back f [] d = tt
distinct_back f (x ∷ xs) d = (λ i. d.0 (in_map f x xs i), distinct_back f xs d.1)

-- and the map tells its members apart
pub told_apart : {I J : Type 0} (f : I → J) (xs : List I) → Distinct (map f xs) → (x y : I) → In x xs → In y xs → f x ≡ f y → x ≡ y
told_apart f [] d x y i j e = absurd i
told_apart f (z ∷ xs) d x y (inl p) (inl q) e = p ∙ sym q
told_apart {J = J} f (z ∷ xs) d x y (inl p) (inr j) e = absurd (d.0 (subst (λ (w : J). In w (map f xs)) (sym e ∙ ap f p) (in_map f y xs j)))
told_apart {J = J} f (z ∷ xs) d x y (inr i) (inl q) e = absurd (d.0 (subst (λ (w : J). In w (map f xs)) (e ∙ ap f q) (in_map f x xs i)))
told_apart f (z ∷ xs) d x y (inr i) (inr j) e = told_apart f xs d.1 x y i j e

-- a list each member of which is that of something with the property is that of a list of such things
pub lift_members : {I J : Type 0} (P : I → Type 0) (f : I → J) (ys : List J) → ((y : J) → In y ys → (x : I) × P x × (f x ≡ y)) → (xs : List I) × ((x : I) → In x xs → P x) × (map f xs ≡ ys)
lift_members P f [] l = ([], λ x i. absurd i, refl)
lift_members {I} P f (y ∷ ys) l =
    let s = l y (inl refl) in
    let r = lift_members P f ys (λ z i. l z (inr i)) in
    let e = s.2 in
    let m = r.2 in
    (s.0 ∷ r.0, λ x i. elim i [ inl p ↦ subst P (sym p) s.1 | inr j ↦ r.1 x j ], cc)

-- things with one property and with another, matched by a map
module _ {I J : Type 0} (P : I → Type 0) (Q : J → Type 0) (f : I → J) (to : (x : I) → P x → Q (f x)) (lift : (y : J) → Q y → (x : I) × P x × (f x ≡ y)) (apart : (x y : I) → P x → P y → f x ≡ f y → x ≡ y) where
  pub exactly_kept : (xs : List I) → Exactly P xs → Exactly Q (map f xs)
  exactly_kept xs p = record {
    distinct = distinct_on f xs (λ x y i j e. apart x y (p.only x i) (p.only y j) e) p.distinct;
    only = λ y i. let r = from_map f y xs i in subst Q (sym r.2) (to r.0 (p.only r.0 r.1));
    all = λ y q. let r = lift y q in subst (λ (z : J). In z (map f xs)) r.2 (in_map f r.0 xs (p.all r.0 r.1));
  }

  pub exactly_lifts : (ys : List J) → Exactly Q ys → (xs : List I) × Exactly P xs × (map f xs ≡ ys)
  exactly_lifts ys q = more (lift_members P f ys (λ y i. lift y (q.only y i)))
    where
      more : ((xs : List I) × ((x : I) → In x xs → P x) × (map f xs ≡ ys)) → (xs : List I) × Exactly P xs × (map f xs ≡ ys)
      more (xs, each, m) =
          let d : Distinct (map f xs) = subst (λ zs. Distinct zs) (sym m) q.distinct in (
            xs,
            record {
              distinct = distinct_back f xs d;
              only = each;
              all = λ x p.
                  let r = from_map f (f x) xs (subst (λ zs. In (f x) zs) (sym m) (q.all (f x) (to x p))) in
                  subst (λ (z : I). In z xs) (sym (apart x r.0 p (each r.0 r.1) r.2)) r.1;
            },
            m,
          )

  pub matched_numbers : (n : ℕ) → Many P n ↔ Many Q n
  matched_numbers n = (
    λ p. record { which = map f p.which; exactly = exactly_kept p.which p.exactly; count = length-map p.which f ∙ p.count },
    λ q. (let r = exactly_lifts q.which q.exactly in record { which = r.0; exactly = r.1; count = sym (length-map r.0 f) ∙ ap length r.2 ∙ q.count }),
  )

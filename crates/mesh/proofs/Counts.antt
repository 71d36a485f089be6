-- Counting by lists without repetition.
use Rattle.std.proofs.Common.{◌≡◌, ℕ, suc, ◌+◌, ◌≤◌, ◌⊎◌, List, [], ◌∷◌, ◌++◌, map, length, sym, refl, ap, ◌∙◌, subst, inl, inr, arith, length-append}
use lib.ListN.{length-map}
use Rattle.mesh.specs.Listed.{In}
use Rattle.mesh.specs.Exactly.{Distinct, Exactly, Many}
use Rattle.mesh.specs.CountLaws.{CountLaws}
use Rattle.mesh.proofs.Lists.{in_left, in_right, in_either, distinct_join, in_map, from_map, distinct_map}

-- the list without the place at which x stands
without : {J : Type 0} (x : J) (ys : List J) → In x ys → List J
without x [] i = []
without x (y ∷ ys) (inl e) = ys
without x (y ∷ ys) (inr i) = y ∷ without x ys i

length_without : {J : Type 0} (x : J) (ys : List J) (i : In x ys) → length ys ≡ suc (length (without x ys i))
unfolding without
length_without x [] i = absurd i
length_without x (y ∷ ys) (inl e) = refl
length_without x (y ∷ ys) (inr i) = ap suc (length_without x ys i)

-- what stands in a list stands at the place of x, or in what is left
there_or_left : {J : Type 0} (x z : J) (ys : List J) (i : In x ys) → In z ys → (z ≡ x) ⊎ In z (without x ys i)
unfolding without
there_or_left x z [] i j = absurd i
there_or_left x z (y ∷ ys) (inl e) (inl f) = inl (f ∙ sym e)
there_or_left x z (y ∷ ys) (inl e) (inr j) = inr j
there_or_left x z (y ∷ ys) (inr i) (inl f) = inr (inl f)
there_or_left x z (y ∷ ys) (inr i) (inr j) = elim (there_or_left x z ys i j) [ inl e ↦ inl e | inr k ↦ inr (inr k) ]

others : {J : Type 0} (x : J) (xs ys : List J) (i : In x ys) → (In x xs → ⊥) → ((z : J) → In z xs → In z ys) → (z : J) → In z xs → In z (without x ys i)
others {J} x xs ys i d f z j =
    elim (there_or_left x z ys i (f z j)) [ inl e ↦ absurd (d (subst (λ (w : J). In w xs) e j)) | inr k ↦ k ]

pub no_longer : {J : Type 0} (xs ys : List J) → Distinct xs → ((z : J) → In z xs → In z ys) → length xs ≤ length ys
no_longer [] ys d f = omega arith
no_longer (x ∷ xs) ys d f =
    let i = f x (inl refl) in
    let e = length_without x ys i in
    let h = no_longer xs (without x ys i) d.1 (others x xs ys i d.0 (λ z j. f z (inr j))) in
    omega arith

pub as_long : {J : Type 0} (xs ys : List J) → Distinct xs → ((z : J) → In z xs → In z ys) → length ys ≤ length xs → (z : J) → In z ys → In z xs
as_long [] [] d f h z j = j
as_long [] (y ∷ ys) d f h z j = let c : ⊥ = omega arith in absurd c
as_long (x ∷ xs) ys d f h z j =
    let i = f x (inl refl) in
    let e = length_without x ys i in
    elim (there_or_left x z ys i j) [
      | inl p ↦ inl p
      | inr k ↦ inr (as_long xs (without x ys i) d.1 (others x xs ys i d.0 (λ w l. f w (inr l))) (omega arith) z k)
    ]

module _ {J : Type 0} (P : J → Type 0) where
  pub same_count : (xs ys : List J) → Exactly P xs → Exactly P ys → length xs ≡ length ys
  same_count xs ys p q =
      let h = no_longer xs ys p.distinct (λ z i. q.all z (p.only z i)) in
      let k = no_longer ys xs q.distinct (λ z i. p.all z (q.only z i)) in
      omega arith

  pub one_count : (m n : ℕ) → Many P m → Many P n → m ≡ n
  one_count m n p q =
      let e = same_count p.which q.which p.exactly q.exactly in
      let f = p.count in let g = q.count in
      omega arith

  pub at_most : (n : ℕ) (xs : List J) → Many P n → Distinct xs → ((z : J) → In z xs → P z) → length xs ≤ n
  at_most n xs p d f =
      let h = no_longer xs p.which d (λ z i. p.exactly.all z (f z i)) in
      let e = p.count in
      omega arith

  pub all_found : (n : ℕ) (xs : List J) → Many P n → Distinct xs → ((z : J) → In z xs → P z) → length xs ≡ n → Exactly P xs
  all_found n xs p d f e = record {
    distinct = d;
    only = f;
    all = λ b k. as_long xs p.which d (λ z i. p.exactly.all z (f z i)) (let g = p.count in omega arith) b (p.exactly.all b k);
  }

  pub count_laws : CountLaws P
  count_laws = record { same_count = same_count; one_count = one_count; at_most = at_most; all_found = all_found }

-- the numbers of two properties that nothing shares add up
pub added : {J : Type 0} (P Q R : J → Type 0) → ((b : J) → P b → Q b → ⊥) → ((b : J) → P b ⊎ Q b → R b) → ((b : J) → R b → P b ⊎ Q b) → (m n : ℕ) → Many P m → Many Q n → Many R (m + n)
added P Q R apart make split m n p q = record {
  which = p.which ++ q.which;
  exactly = record {
    distinct = distinct_join p.which q.which p.exactly.distinct q.exactly.distinct (λ x i j. apart x (p.exactly.only x i) (q.exactly.only x j));
    only = λ b i. elim (in_either b p.which q.which i) [ inl j ↦ make b (inl (p.exactly.only b j)) | inr j ↦ make b (inr (q.exactly.only b j)) ];
    all = λ b r. elim (split b r) [ inl x ↦ in_left b p.which q.which (p.exactly.all b x) | inr x ↦ in_right b p.which q.which (q.exactly.all b x) ];
  };
  count = let e = length-append p.which q.which in let f = p.count in let g = q.count in omega arith;
}

-- a map that has an inverse carries a number along
pub moved_count : {I J : Type 0} (P : I → Type 0) (Q : J → Type 0) (f : I → J) (g : J → I) → ((x : I) → g (f x) ≡ x) → ((y : J) → f (g y) ≡ y) → ((x : I) → P x → Q (f x)) → ((y : J) → Q y → P (g y)) → (n : ℕ) → Many P n → Many Q n
moved_count {I} {J} P Q f g gf fg to from n p = record {
  which = map f p.which;
  exactly = record {
    distinct = distinct_map f (λ x y e. sym (gf x) ∙ ap g e ∙ gf y) p.which p.exactly.distinct;
    only = λ b i. let r = from_map f b p.which i in subst Q (sym r.2) (to r.0 (p.exactly.only r.0 r.1));
    all = λ b q. subst (λ (y : J). In y (map f p.which)) (fg b) (in_map f (g b) p.which (p.exactly.all (g b) (from b q)));
  };
  count = length-map p.which f ∙ p.count;
}

-- What stands in the parts of a list, and lists without repetition.
use Rattle.std.proofs.Common.{◌≡◌, ℕ, zero, suc, ◌+◌, ◌-◌, ◌<◌, ◌≤◌, List, [], ◌∷◌, ◌++◌, length, take, drop, sym, refl, ap, ◌∙◌, subst, inl, inr, arith, take-append-drop, length-take}
use Rattle.std.specs.List.{range_with_len, between, flat_map}
use Rattle.std.proofs.lemmas.List.{take-take, drop_at, length-take-le}
use Rattle.std.proofs.lemmas.Slice.{between_is}
use Rattle.mesh.specs.Listed.{In}
use Rattle.mesh.specs.Exactly.{Distinct}
use Rattle.mesh.proofs.Lists.{in_left, in_right, in_either}

-- what stands in lists that are joined stands in one of them, and the other way round
module _ {I J : Type 0} (f : I → List J) where
  pub from_joined : (y : J) (xs : List I) → In y (flat_map f xs) → (x : I) × In x xs × In y (f x)
  from_joined y [] i = absurd i
  from_joined y (x ∷ xs) i =
      elim (in_either y (f x) (flat_map f xs) i) [
        | inl j ↦ (x, inl refl, j)
        | inr j ↦ let r = from_joined y xs j in (r.0, inr r.1, r.2)
      ]

  pub in_joined : (y : J) (x : I) (xs : List I) → In x xs → In y (f x) → In y (flat_map f xs)
  in_joined y x [] i j = absurd i
  in_joined y x (z ∷ xs) (inl e) j = in_left y (f z) (flat_map f xs) (subst (λ (w : I). In y (f w)) e j)
  in_joined y x (z ∷ xs) (inr i) j = in_right y (f z) (flat_map f xs) (in_joined y x xs i j)

module _ {J : Type 0} where
  -- where two lists joined have no repetition, the second has none, and nothing stands in both
  pub distinct_right : (xs ys : List J) → Distinct (xs ++ ys) → Distinct ys
  distinct_right [] ys d = d
  distinct_right (x ∷ xs) ys d = distinct_right xs ys d.1

  pub distinct_apart : (x : J) (xs ys : List J) → Distinct (xs ++ ys) → In x xs → In x ys → ⊥
  distinct_apart x [] ys d i j = i
  distinct_apart x (z ∷ xs) ys d (inl e) j = d.0 (in_right z xs ys (subst (λ (w : J). In w ys) e j))
  distinct_apart x (z ∷ xs) ys d (inr i) j = distinct_apart x xs ys d.1 i j

  -- a list up to a place is the list up to a place before it and the part between them
  pub take_between : (i j : ℕ) (xs : List J) → i ≤ j → take j xs ≡ take i xs ++ between i j xs
  take_between i j xs h =
      sym (take-append-drop i (take j xs)) ∙ ap (λ (l : List J). l ++ drop i (take j xs)) (take-take i j xs h) ∙ ap (λ (l : List J). take i xs ++ l) (sym (between_is xs i j))

  -- and that part is all that it has more
  pub between_only : (i j : ℕ) (xs ys : List J) → i ≤ length xs → take j xs ≡ take i xs ++ ys → between i j xs ≡ ys
  between_only i j xs ys h e = between_is xs i j ∙ ap (drop i) e ∙ drop_at (take i xs) ys i (length-take-le i xs h)

  -- a part of the front of a list is a part of the list
  pub between_front : (i j n : ℕ) (xs ys : List J) → j ≤ n → take n xs ≡ ys → between i j xs ≡ between i j ys
  between_front i j n xs ys h e =
      between_is xs i j ∙ ap (drop i) (sym (take-take j n xs h) ∙ ap (take j) e) ∙ sym (between_is ys i j)

  pub in_take : (x : J) (n : ℕ) (xs : List J) → In x (take n xs) → In x xs
  in_take x n xs i = subst (λ (l : List J). In x l) (take-append-drop n xs) (in_left x (take n xs) (drop n xs) i)

  pub in_drop : (x : J) (n : ℕ) (xs : List J) → In x (drop n xs) → In x xs
  in_drop x n xs i = subst (λ (l : List J). In x l) (take-append-drop n xs) (in_right x (take n xs) (drop n xs) i)

  pub in_between : (x : J) (i j : ℕ) (xs : List J) → In x (between i j xs) → In x xs
  in_between x i j xs k = in_drop x i xs (in_take x (j - i) (drop i xs) k)

  -- a list whose front is another is at least as long
  pub front_length : (xs ys : List J) → take (length xs) ys ≡ xs → length xs ≤ length ys
  front_length xs ys e = let a = length-take (length xs) ys in let b = ap length e in omega arith

-- counting names the numbers from a on that are below a + n, each once
pub in_counting : (x a n : ℕ) → In x (range_with_len a n) → (a ≤ x) × (x < a + n)
in_counting x a zero i = absurd i
in_counting x a (suc n) (inl e) = (omega arith, omega arith)
in_counting x a (suc n) (inr i) = let r = in_counting x (a + 1) n i in let l = r.0 in let h = r.1 in (omega arith, omega arith)

pub distinct_counting : (a n : ℕ) → Distinct (range_with_len a n)
distinct_counting a zero = tt
distinct_counting a (suc n) = ((λ i. let l = (in_counting a (a + 1) n i).0 in omega arith), distinct_counting (a + 1) n)

-- What stands in a list that is made of others, and lists without repetition.
use Rattle.std.proofs.Common.{◌≡◌, ℕ, zero, suc, ◌<◌, ◌⊎◌, List, [], ◌∷◌, ◌++◌, map, length, get_or, sym, refl, ap, subst, inl, inr, arith}
use Rattle.mesh.specs.Listed.{In}
use Rattle.mesh.specs.Exactly.{Distinct}

pub in_left : {J : Type 0} (x : J) (xs ys : List J) → In x xs → In x (xs ++ ys)
in_left x [] ys i = absurd i
in_left x (z ∷ xs) ys (inl e) = inl e
in_left x (z ∷ xs) ys (inr i) = inr (in_left x xs ys i)

pub in_right : {J : Type 0} (x : J) (xs ys : List J) → In x ys → In x (xs ++ ys)
in_right x [] ys i = i
in_right x (z ∷ xs) ys i = inr (in_right x xs ys i)

pub in_either : {J : Type 0} (x : J) (xs ys : List J) → In x (xs ++ ys) → In x xs ⊎ In x ys
in_either x [] ys i = inr i
in_either x (z ∷ xs) ys (inl e) = inl (inl e)
in_either x (z ∷ xs) ys (inr i) = elim (in_either x xs ys i) [ inl j ↦ inl (inr j) | inr j ↦ inr j ]

-- a list in which nothing stands is empty
pub in_none : {J : Type 0} (xs : List J) → ((x : J) → In x xs → ⊥) → xs ≡ []
in_none [] f = refl
in_none (x ∷ xs) f = absurd (f x (inl refl))

-- what stands in a list with one more at its end
pub in_push : {J : Type 0} (x : J) (xs : List J) (y : J) → In x (xs ++ (y ∷ [])) → In x xs ⊎ (x ≡ y)
in_push x xs y i = elim (in_either x xs (y ∷ []) i) [ inl j ↦ inl j | inr j ↦ inr (elim j [ inl e ↦ e | inr f ↦ absurd f ]) ]

pub distinct_join : {J : Type 0} (xs ys : List J) → Distinct xs → Distinct ys → ((x : J) → In x xs → In x ys → ⊥) → Distinct (xs ++ ys)
distinct_join [] ys d e f = e
distinct_join (x ∷ xs) ys d e f =
    (λ i. elim (in_either x xs ys i) [ inl j ↦ d.0 j | inr j ↦ f x (inl refl) j ], distinct_join xs ys d.1 e (λ z i j. f z (inr i) j))

pub in_map : {I J : Type 0} (f : I → J) (x : I) (xs : List I) → In x xs → In (f x) (map f xs)
in_map f x [] i = absurd i
in_map f x (z ∷ xs) (inl e) = inl (ap f e)
in_map f x (z ∷ xs) (inr i) = inr (in_map f x xs i)

pub from_map : {I J : Type 0} (f : I → J) (y : J) (xs : List I) → In y (map f xs) → (x : I) × In x xs × (y ≡ f x)
from_map f y [] i = absurd i
from_map f y (z ∷ xs) (inl e) = (z, inl refl, e)
from_map f y (z ∷ xs) (inr i) = let r = from_map f y xs i in (r.0, inr r.1, r.2)

pub distinct_map : {I J : Type 0} (f : I → J) → ((x y : I) → f x ≡ f y → x ≡ y) → (xs : List I) → Distinct xs → Distinct (map f xs)
distinct_map f one [] d = tt
distinct_map {I} f one (x ∷ xs) d =
    (λ i. let r = from_map f (f x) xs i in d.0 (subst (λ (z : I). In z xs) (sym (one x r.0 r.2)) r.1), distinct_map f one xs d.1)

-- the element at a place is in the list, and two places of a list without repetition differ
pub in_at : {J : Type 0} (xs : List J) (i : ℕ) (d : J) → i < length xs → In (get_or xs i d) xs
in_at [] i d h = omega arith
in_at (x ∷ xs) zero d h = inl refl
in_at (x ∷ xs) (suc i) d h = inr (in_at xs i d (omega arith))

pub one_place : {J : Type 0} (xs : List J) → Distinct xs → (i j : ℕ) (d : J) → i < length xs → j < length xs → get_or xs i d ≡ get_or xs j d → i ≡ j
one_place [] s i j d h k e = omega arith
one_place (x ∷ xs) s zero zero d h k e = refl
one_place {J} (x ∷ xs) s zero (suc j) d h k e = absurd (s.0 (subst (λ (z : J). In z xs) (sym e) (in_at xs j d (omega arith))))
one_place {J} (x ∷ xs) s (suc i) zero d h k e = absurd (s.0 (subst (λ (z : J). In z xs) e (in_at xs i d (omega arith))))
one_place (x ∷ xs) s (suc i) (suc j) d h k e = ap suc (one_place xs s.1 i j d (omega arith) (omega arith) e)

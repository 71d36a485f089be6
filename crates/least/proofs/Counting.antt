-- How many things have a property: for lists without repetition, none, one, and the same by another property.
use Rattle.std.proofs.Common.{◌≡◌, ℕ, List, [], ◌∷◌, length, Less, refl, inl, inr}
use Rattle.label.specs.Order.{Order}
use Rattle.mesh.specs.Listed.{In}
use Rattle.mesh.specs.Exactly.{Distinct, Exactly, Many}

-- a list without repetition holds as many things as it has places
pub distinct_many : {R : Type 0} (xs : List R) → Distinct xs → Many (λ x. In x xs) (length xs)
distinct_many xs d = record { which = xs; exactly = record { distinct = d; only = λ b i. i; all = λ b i. i }; count = refl }

-- nothing has the property
pub none_many : {R : Type 0} (P : R → Type 0) → ((x : R) → P x → ⊥) → Many P 0
none_many P none = record { which = []; exactly = record { distinct = tt; only = λ b i. absurd i; all = none }; count = refl }

-- exactly one thing is equal to m
pub one_many : {R : Type 0} (m : R) → Many (λ x. x ≡ m) 1
one_many m = record {
  which = m ∷ [];
  exactly = record { distinct = ((λ i. i), tt); only = λ b i. elim i [ inl e ↦ e | inr f ↦ absurd f ]; all = λ b e. inl e };
  count = refl;
}

-- two properties of the same things have one number
pub same_many : {R : Type 0} (P Q : R → Type 0) → ((x : R) → P x → Q x) → ((x : R) → Q x → P x) → (n : ℕ) → Many P n → Many Q n
same_many P Q to from n p = record {
  which = p.which;
  exactly = record { distinct = p.exactly.distinct; only = λ b i. to b (p.exactly.only b i); all = λ b q. p.exactly.all b (from b q) };
  count = p.count;
}

-- where the list holds exactly what P is true of, as many things with P are less than m as things in the list
pub lower_many : {R : Type 0} (O : Order R) (P : R → Type 0) (ys : List R) → Exactly P ys → (m : R) (i : ℕ) → Many (λ x. In x ys × (O.cmp x m ≡ Less)) i → Many (λ x. P x × (O.cmp x m ≡ Less)) i
lower_many O P ys e m i =
    same_many (λ x. In x ys × (O.cmp x m ≡ Less)) (λ x. P x × (O.cmp x m ≡ Less)) (λ x k. (e.only x k.0, k.1)) (λ x k. (e.all x k.0, k.1)) i

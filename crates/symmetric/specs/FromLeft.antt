-- Rows of n elements, ordered from the left, for any order of the elements. Assumes nothing.
use Rattle.std.specs.Prelude.{ℕ, zero, suc, List, [], ◌∷◌, refl}
use Rattle.std.specs.declared.cmp.Ordering.TheVariants.{Equal}
use Rattle.label.specs.Order.{Order, pair_order}

-- a row of n elements: a first one, and a row of the others
abbrev pub Row : Type 0 → ℕ → Type 0
Row A zero = Unit {0}
Row A (suc n) = A × Row A n

abbrev pub empty_order : Order (Unit {0})
empty_order = record {
  cmp = λ x y. Equal;
  itself = λ x. refl;
  same = λ x y e. refl;
  turned = λ x y. refl;
  chain = λ x y z e f. e;
}

-- by the first elements, and by the others where those are the same
abbrev pub row_order : {A : Type 0} → Order A → (n : ℕ) → Order (Row A n)
row_order O zero = empty_order
row_order O (suc n) = pair_order O (row_order O n)

-- the first n numbers of a list as a row, with zeros where the list has fewer
abbrev pub row : (n : ℕ) → List ℕ → Row ℕ n
row zero xs = tt
row (suc n) [] = (0, row n [])
row (suc n) (x ∷ xs) = (x, row n xs)

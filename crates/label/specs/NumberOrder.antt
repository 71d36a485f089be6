-- The order of the numbers, and an order taken over along a map. Assumes nothing.
use Rattle.std.specs.Prelude.{◌≡◌, ℕ}
use Rattle.std.specs.declared.cmp.Ordering.TheVariants.{Equal}
use Rattle.std.specs.declared.cmp.Ordering.{Ordering}
use Rattle.std.proofs.Common.{arith}
use Rattle.std.specs.Ordering.{nat_cmp}
use Rattle.std.proofs.lemmas.Cmp.{nat_cmp_total}
use Rattle.std.proofs.lemmas.Bool.Decides.{nat_tests}
use Rattle.label.specs.Order.{Order, total_order}

-- which of two numbers is less
abbrev pub cmp_number : ℕ → ℕ → Ordering
cmp_number x y = nat_cmp x y

pub cmp_same : (x y : ℕ) → cmp_number x y ≡ Equal → x ≡ y
cmp_same x y e = grind (arith, nat_tests)

-- numbers in their order
abbrev pub number_order : Order ℕ
number_order = total_order cmp_number nat_cmp_total cmp_same

-- an order taken over along a map that keeps different things apart
abbrev pub order_by : {A B : Type 0} (f : A → B) → ((x y : A) → f x ≡ f y → x ≡ y) → Order B → Order A
order_by f apart O = record {
  cmp = λ x y. O.cmp (f x) (f y);
  itself = λ x. O.itself (f x);
  same = λ x y e. apart x y (O.same (f x) (f y) e);
  turned = λ x y. O.turned (f x) (f y);
  chain = λ x y z. O.chain (f x) (f y) (f z);
}

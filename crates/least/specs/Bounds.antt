-- What ranks below what, and above or below a bound that may be missing. Assumes nothing.
use Rattle.std.specs.Prelude.{◌≡◌, Some, None, Option}
use Rattle.std.specs.declared.cmp.Ordering.TheVariants.{Less}
use Rattle.label.specs.Order.{Order}

-- x ranks below y
abbrev pub Lower : {T R : Type 0} → Order R → (T → R) → T → T → Type 0
Lower order rank x y = order.cmp (rank x) (rank y) ≡ Less

-- x ranks above the floor; where there is none, everything does
abbrev pub Above : {T R : Type 0} → Order R → (T → R) → Option T → T → Type 0
Above order rank None x = Unit {0}
Above order rank (Some floor) x = Lower order rank floor x

-- x ranks below the ceiling; where there is none, everything does
abbrev pub Below : {T R : Type 0} → Order R → (T → R) → T → Option T → Type 0
Below order rank x None = Unit {0}
Below order rank x (Some ceiling) = Lower order rank x ceiling

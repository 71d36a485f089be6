-- Which of several rules, checked in an order, a call is refused by. Assumes nothing.
use Rattle.std.specs.Prelude.{List, [], ◌∷◌, Ok, Err, Result}

-- none of the rules is broken
abbrev pub NoneOf : {E : Type 0} → (E → Type 0) → List E → Type 0
NoneOf Broken [] = Unit {0}
NoneOf Broken (e ∷ es) = (Broken e → ⊥) × NoneOf Broken es

-- e is the first of the rules, in their order, that is broken
pub data First {E : Type 0} (Broken : E → Type 0) (e : E) : List E → Type 0 where
  here : {es : List E} → Broken e → First Broken e (e ∷ es)
  later : {f : E} {es : List E} → (Broken f → ⊥) → First Broken e es → First Broken e (f ∷ es)

-- a call is done, as `Done` says, exactly if it breaks no rule, and else refused by the first that it breaks, as `Kept` says
abbrev pub Settled : {E Y : Type 0} → (E → Type 0) → List E → (Y → Type 0) → Type 0 → Result Y E → Type 0
Settled Broken rules Done Kept (Ok y) = NoneOf Broken rules × Done y
Settled Broken rules Done Kept (Err e) = First Broken e rules × Kept

-- only the verdict: no rule is broken, or else the first that is
abbrev pub Judged : {E Y : Type 0} → (E → Type 0) → List E → Result Y E → Type 0
Judged Broken rules r = Settled Broken rules (λ _. Unit {0}) (Unit {0}) r

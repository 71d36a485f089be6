-- What the answer of a label's reading tells of its numbers.
use Rattle.std.proofs.Common.{◌≡◌, ℕ, Bool, true, false, ◌⊎◌, Some, None, Ok, Err, Option, Result, sym, refl, ap, inl, inr}
use Rattle.label.specs.Clauses.{ReadAs}
use Rattle.sheet.proofs.Readers.{ok_err}
use Rattle.sheet.specs.Faults.{at_place, placed_at}
use Rattle.sheet.specs.declared.faults.Placed.{Placed}
use Rattle.label.specs.declared.refusals.LabelFault.{LabelFault}
use Rattle.label.specs.declared.refusals.LabelFault.TheVariants.{OutOfRange, NoPermutation}

module _ {L M : Type 0} (stands : L → M) where
  pub read_ok : (b : Bool) (o : Option M) (l : L) → ReadAs stands b o (Ok l) → (b ≡ true) × (o ≡ Some (stands l))
  read_ok false o l e = absurd (ok_err _ _ e)
  read_ok true None l e = absurd (ok_err _ _ e)
  read_ok true (Some m) l e = (refl, ap Some (sym e))

  pub read_err : (b : Bool) (o : Option M) (f : LabelFault) → ReadAs stands b o (Err f) → ((b ≡ false) × (f ≡ OutOfRange)) ⊎ ((b ≡ true) × (o ≡ None) × (f ≡ NoPermutation))
  read_err false o f e = inl (refl, cc)
  read_err true None f e = inr (refl, refl, cc)
  read_err true (Some m) f e = absurd e

-- an answer whose fault was given its place
module _ {T F : Type 0} (place : ℕ) where
  pub placed_ok : (r : Result T F) (x : T) → Ok x ≡ placed_at r place → r ≡ Ok x
  placed_ok (Ok y) x e = let same : y ≡ x = cc in ap Ok same
  placed_ok (Err f) x e = absurd (ok_err x (at_place f place) e)

  pub placed_err : (r : Result T F) (f : Placed F) → Err f ≡ placed_at r place → (e : F) × (r ≡ Err e) × (f ≡ at_place e place)
  placed_err (Ok y) f e = absurd (ok_err y f (sym e))
  placed_err (Err g) f e = (g, refl, cc)

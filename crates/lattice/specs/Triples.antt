-- The written form of what is made of three coordinates: three numbers, each from -500 to 500. Assumes nothing.
use Rattle.std.specs.Prelude.{◌≡◌, Bool, true, false, ◌&&◌, List, [], ◌∷◌, ℤ, pos, negsuc, Some, None, Option, Result, MatchResult, FitsSigned, nat_le, slice_index_or, refl}
use Rattle.std.proofs.Common.{sym, ap, subst, ◌∙◌, arith, lit≤}
use Rattle.std.specs.Int.{w32}
use Rattle.std.specs.Option.{option_map}
use Rattle.std.specs.Bool.{then_some}
use Rattle.std.proofs.lemmas.Int.{int_wrap_fits}
use Rattle.std.proofs.lemmas.Option.{none-some}
use Rattle.std.proofs.lemmas.Bool.{leb-true, and_parts}
use Rattle.label.specs.declared.refusals.LabelFault.{LabelFault}
use Rattle.label.specs.declared.refusals.LabelFault.TheVariants.{OutOfRange}
use Rattle.label.specs.declared.written.Slot.{Slot}
use Rattle.label.specs.declared.written.Storage.TheVariants.{Signed}
use Rattle.label.specs.Form.{Form, inside, fit}
use Rattle.label.specs.Group.{both}
use Rattle.lattice.specs.Coord.{Coord, coord, coord_back}

abbrev pub Triple : Type 0
Triple = Coord × (Coord × Coord)

-- the triple of the coordinates that three integers wrap to
abbrev pub triple : ℤ → ℤ → ℤ → Triple
triple a b c = (coord a, (coord b, coord c))

-- the triple that the first three numbers of a list wrap to
abbrev pub triple_of : List ℤ → Triple
triple_of xs = triple (slice_index_or xs 0 (pos 0)) (slice_index_or xs 1 (pos 0)) (slice_index_or xs 2 (pos 0))

-- its three numbers
abbrev pub numbers : Triple → List ℤ
numbers t = t.0.0 ∷ t.1.0.0 ∷ t.1.1.0 ∷ []

-- a coordinate as it is written
abbrev pub coord_slot : Slot
coord_slot = record { storage = Signed; least = negsuc 499; most = pos 500 }

abbrev pub triple_slots : List Slot
triple_slots = coord_slot ∷ coord_slot ∷ coord_slot ∷ []

-- the triple that three numbers stand for
abbrev pub triple_read : List ℤ → Option Triple
triple_read [] = None
triple_read (a ∷ []) = None
triple_read (a ∷ b ∷ []) = None
triple_read (a ∷ b ∷ c ∷ []) = Some (triple a b c)
triple_read (a ∷ b ∷ c ∷ d ∷ xs) = None

-- the numbers of a triple, if each is in range
abbrev pub triple_told : Triple → Option (List ℤ)
triple_told t = then_some (fit triple_slots (numbers t)) (numbers t)

-- the three numbers as they are read: refused unless there are three and each is in range
abbrev pub ThreeRead : List ℤ → Result (List ℤ) LabelFault → Type 0
ThreeRead xs r = MatchResult r (λ t. (t ≡ xs) × (fit triple_slots xs ≡ true)) (λ e. (e ≡ OutOfRange) × (fit triple_slots xs ≡ false))

-- a number in range is one that 32 bits hold
slot_fits : (z : ℤ) → inside coord_slot z ≡ true → FitsSigned w32 z
slot_fits (pos n) e = let h = leb-true n 500 e in record { sfits = omega arith }
slot_fits (negsuc n) e = let h = leb-true n 499 (and_parts (nat_le n 499) true e).0 in record { sfits = omega arith }

numbers_triple : (a b c : ℤ) → fit triple_slots (a ∷ b ∷ c ∷ []) ≡ true → numbers (triple a b c) ≡ a ∷ b ∷ c ∷ []
numbers_triple a b c e =
    let p = and_parts (inside coord_slot a) (inside coord_slot b && (inside coord_slot c && true)) e in
    let q = and_parts (inside coord_slot b) (inside coord_slot c && true) p.1 in
    let r = and_parts (inside coord_slot c) true q.1 in
    let f = slot_fits a p.0 in
    let g = slot_fits b q.0 in
    let h = slot_fits c r.0 in
    simp int_wrap_fits

triple_numbers : (t : Triple) → triple_read (numbers t) ≡ Some t
triple_numbers t = ap Some (both (coord_back t.0) (both (coord_back t.1.0) (coord_back t.1.1)))

told : {A : Type 0} (b : Bool) (a c : A) → ◌≡◌ {A = Option A} (then_some b a) (Some c) → (b ≡ true) × (a ≡ c)
told true a c e = (refl, cc)
told false a c e = absurd (none-some c e)

-- what reads as a triple is written as it was
pub triple_again : (xs : List ℤ) (t : Triple) → fit triple_slots xs ≡ true → triple_read xs ≡ Some t → triple_told t ≡ Some xs
triple_again [] t e r = absurd (none-some t r)
triple_again (a ∷ []) t e r = absurd (none-some t r)
triple_again (a ∷ b ∷ []) t e r = absurd (none-some t r)
triple_again (a ∷ b ∷ c ∷ []) t e r =
    let p : triple a b c ≡ t = cc in
    let q : numbers t ≡ a ∷ b ∷ c ∷ [] = ap numbers (sym p) ∙ numbers_triple a b c e in
    ap (λ ys. then_some (fit triple_slots ys) ys) q ∙ ap (λ w. then_some w (a ∷ b ∷ c ∷ [])) e
triple_again (a ∷ b ∷ c ∷ d ∷ xs) t e r = absurd (none-some t r)

-- what is written of a triple reads as it
pub triple_back : (t : Triple) (xs : List ℤ) → triple_told t ≡ Some xs → (fit triple_slots xs ≡ true) × (triple_read xs ≡ Some t)
triple_back t xs e =
    let p = told (fit triple_slots (numbers t)) (numbers t) xs e in
    subst (λ ys. (fit triple_slots ys ≡ true) × (triple_read ys ≡ Some t)) p.1 (p.0, triple_numbers t)

-- a thing made of three coordinates: how it is put together, and its parts
pub record Made (M : Type 0) : Type 0 where
  pub whole : Triple → M
  pub parts : M → Triple
  pub parts_whole : (t : Triple) → parts (whole t) ≡ t
  pub whole_parts : (m : M) → whole (parts m) ≡ m

module _ {M : Type 0} (made : Made M) where
  pub of_parts : (o : Option Triple) (m : M) → option_map made.whole o ≡ Some m → o ≡ Some (made.parts m)
  of_parts None m e = absurd (none-some m e)
  of_parts (Some t) m e = let p : made.whole t ≡ m = cc in ap Some (sym (made.parts_whole t) ∙ ap made.parts p)

  -- what is made of three coordinates is written as their three numbers
  abbrev pub triple_form : Form M
  triple_form = record {
    slots = triple_slots;
    few = lit≤ tt;
    stored = refl;
    able = true;
    means = λ xs. option_map made.whole (triple_read xs);
    tells = λ m. triple_told (made.parts m);
    again = λ xs m e r. triple_again xs (made.parts m) e (of_parts (triple_read xs) m r);
    back = λ m xs e. let p = triple_back (made.parts m) xs e in (p.0, ap (option_map made.whole) p.1 ∙ ap Some (made.whole_parts m));
  }

-- a triple, as made of its own coordinates
abbrev pub triple_made : Made Triple
triple_made = record { whole = λ t. t; parts = λ t. t; parts_whole = λ t. refl; whole_parts = λ t. refl }

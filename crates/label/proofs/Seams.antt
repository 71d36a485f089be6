-- The written form of a pair at its places, and what reading its parts says of the whole. Assumes nothing.
use Rattle.std.proofs.Common.{◌≡◌, ℕ, ◌+◌, ◌-◌, ◌<◌, ◌≤◌, Bool, true, false, ◌&&◌, List, ◌++◌, length, ℤ, Some, None, Ok, Err, Option, Result, refl, ap, ◌∙◌, inl, inr, arith, length-append}
use Rattle.std.specs.List.{slice_get}
use Rattle.std.proofs.lemmas.Bool.{and_parts, cases_Bool}
use Rattle.std.proofs.iter.runs.Lists.{nth_left, nth_right}
use Rattle.label.specs.declared.pairs.Pair.{Pair}
use Rattle.label.specs.declared.refusals.LabelFault.{LabelFault}
use Rattle.label.specs.declared.refusals.LabelFault.TheVariants.{OutOfRange}
use Rattle.label.specs.Group.{both}
use Rattle.label.specs.Form.{Form, fit, in_range}
use Rattle.label.specs.Fits.{fit_length, told_length}
use Rattle.label.specs.Clauses.{ReadAs, ReadClause, written_at}
use Rattle.label.specs.PairForm.{with_both, with_both_is, beside, roomy, pair_slots, pair_able, pair_in_range, pair_form, pair_tells, front, rest}
use Rattle.label.specs.PairReading.{joined_reading}

-- past the first list, a place is one of the second
pub nth_beyond : {X : Type 0} (xs ys : List X) (i : ℕ) → length xs ≤ i → slice_get (xs ++ ys) i ≡ slice_get ys (i - length xs)
nth_beyond xs ys i h =
    let e : i ≡ length xs + (i - length xs) = omega arith in
    ap (slice_get (xs ++ ys)) e ∙ nth_right xs ys (i - length xs)

module _ {A B : Type 0} (F : Form A) (G : Form B) where
  -- numbers in range are as many as the parts have, and not too many
  pub in_range_counts : (xs : List ℤ) → in_range (pair_form F G) xs ≡ true → (roomy F G ≡ true) × (length xs ≡ length F.slots + length G.slots)
  in_range_counts xs h =
      let s = and_parts (pair_able F G) (fit (pair_slots F G) xs) h in
      let r : roomy F G ≡ true = (and_parts (F.able && G.able) (roomy F G) s.0).1 in
      let n : length xs ≡ length (pair_slots F G) = fit_length (pair_slots F G) xs s.1 in
      (r, n ∙ rw (r, length-append F.slots G.slots))

-- numbers that are not in range are refused as such
pub out_of_range : {L M : Type 0} (F : Form M) (stands : L → M) (xs : List ℤ) → (in_range F xs ≡ true → ⊥) → ReadClause F stands xs (Err OutOfRange)
out_of_range F stands xs h =
    elim (cases_Bool (in_range F xs)) [ inl e ↦ absurd (h e) | inr e ↦ rw e refl ]

out_first : {K L : Type 0} (r : Result L LabelFault) → joined_reading {A = K} (Err OutOfRange) r ≡ Err OutOfRange
out_first (Ok b) = refl
out_first (Err e) = refl

module _ {A B K L : Type 0} (s : K → A) (t : L → B) where
  abbrev pub stand_beside : Pair K L → A × B
  stand_beside p = (s p.first, t p.second)

  -- the joined reading is that of the pair
  pub joined_as : (i j : Bool) (o : Option A) (p : Option B) (q : Result K LabelFault) (r : Result L LabelFault) → ReadAs s i o q → ReadAs t j p r → ReadAs stand_beside (i && j) (with_both beside o p) (joined_reading q r)
  joined_as false j o p q r h k = ap (λ x. joined_reading x r) h ∙ out_first r
  joined_as true false None p q r h k = cc
  joined_as true false (Some m) p (Ok a) r h k = cc
  joined_as true false (Some m) p (Err d) r h k = absurd h
  joined_as true true None None q r h k = cc
  joined_as true true None (Some n) q (Ok b) h k = cc
  joined_as true true None (Some n) q (Err e) h k = absurd k
  joined_as true true (Some m) None (Ok a) r h k = cc
  joined_as true true (Some m) None (Err d) r h k = absurd h
  joined_as true true (Some m) (Some n) (Ok a) (Ok b) h k = both h k
  joined_as true true (Some m) (Some n) (Ok a) (Err e) h k = absurd k
  joined_as true true (Some m) (Some n) (Err d) r h k = absurd h

  pub pair_read : (F : Form A) (G : Form B) (xs : List ℤ) (q : Result K LabelFault) (r : Result L LabelFault) → roomy F G ≡ true → ReadClause F s (front F G xs) q → ReadClause G t (rest F G xs) r → ReadClause (pair_form F G) stand_beside xs (joined_reading q r)
  pair_read F G xs q r e h k =
      rw (pair_in_range F G xs e) (joined_as (in_range F (front F G xs)) (in_range G (rest F G xs)) (F.means (front F G xs)) (G.means (rest F G xs)) q r h k)

-- the number v stands at a place of a label that is written, or none stands there
record Place (o : Option (List ℤ)) (i : ℕ) (v : Option ℤ) : Type 0 where
  all : List ℤ
  told : o ≡ Some all
  here : slice_get all i ≡ v

placed : (o : Option (List ℤ)) (i : ℕ) (v : Option ℤ) → written_at o i ≡ Ok v → Place o i v
placed None i v e = let z : ◌≡◌ {A = ℕ} 0 1 = cc in absurd (omega arith)
placed (Some xs) i v e = record { all = xs; told = refl; here = cc }

-- the number of a pair at a place is that of the first part, or past its numbers that of the second
module _ {A B : Type 0} (F : Form A) (G : Form B) (m : A × B) (i : ℕ) (v : Option ℤ) (roomy_is : roomy F G ≡ true) where
  both_written : (xs ys : List ℤ) → F.tells m.0 ≡ Some xs → G.tells m.1 ≡ Some ys → written_at (pair_tells F G m) i ≡ Ok (slice_get (xs ++ ys) i)
  both_written xs ys h k = rw roomy_is (ap (λ o. written_at o i) (with_both_is ◌++◌ xs ys h k))

  pub written_first : (j : ℕ) (w : Option ℤ) → i < length F.slots → written_at (F.tells m.0) i ≡ Ok v → written_at (G.tells m.1) j ≡ Ok w → written_at (pair_tells F G m) i ≡ Ok v
  written_first j w l h k =
      let p = placed (F.tells m.0) i v h in
      let q = placed (G.tells m.1) j w k in
      let n = told_length F m.0 p.all p.told in
      both_written p.all q.all p.told q.told ∙ ap Ok (nth_left p.all q.all i (omega arith) ∙ p.here)

  pub written_second : (j : ℕ) (w : Option ℤ) → length F.slots ≤ i → written_at (F.tells m.0) j ≡ Ok w → written_at (G.tells m.1) (i - length F.slots) ≡ Ok v → written_at (pair_tells F G m) i ≡ Ok v
  written_second j w l h k =
      let p = placed (F.tells m.0) j w h in
      let q = placed (G.tells m.1) (i - length F.slots) v k in
      let n = told_length F m.0 p.all p.told in
      both_written p.all q.all p.told q.told ∙ ap Ok (nth_beyond p.all q.all i (omega arith) ∙ ap (λ a. slice_get q.all (i - a)) n ∙ q.here)

-- The written form of a pair: the first part's numbers, then the second's, where together they are at most 4,095. Assumes nothing.
use Rattle.std.specs.Prelude.{◌≡◌, ℕ, ◌≤◌, Bool, true, false, cond, ◌&&◌, List, [], ◌++◌, length, take, drop, ℤ, Some, None, Option, refl}
use Rattle.std.proofs.Common.{sym, ap, ◌∙◌, inl, inr, arith, length-append, take-append-drop, take_at, drop_at}
use Rattle.std.proofs.lemmas.Option.{none-some}
use Rattle.std.proofs.lemmas.Bool.{and_parts, and_from, leb-true, cases_Bool}
use Rattle.label.specs.declared.written.Slot.{Slot}
use Rattle.label.specs.Form.{Form, fit, storable, in_range}
use Rattle.label.specs.PairCount.{few_enough, pair_count}
use Rattle.label.specs.Fits.{told_length, fit_append, storable_append}

-- what two things make together, where both are there
abbrev pub with_both : {A B C : Type 0} → (A → B → C) → Option A → Option B → Option C
with_both f None p = None
with_both f (Some a) None = None
with_both f (Some a) (Some b) = Some (f a b)

-- both things are there, and they make c
pub record Made {A B C : Type 0} (f : A → B → C) (o : Option A) (p : Option B) (c : C) : Type 0 where
  pub one : A
  pub two : B
  pub first : o ≡ Some one
  pub second : p ≡ Some two
  pub makes : f one two ≡ c

pub with_both_made : {A B C : Type 0} (f : A → B → C) (o : Option A) (p : Option B) (c : C) → with_both f o p ≡ Some c → Made f o p c
with_both_made f None p c e = absurd (none-some c e)
with_both_made f (Some a) None c e = absurd (none-some c e)
with_both_made f (Some a) (Some b) c e = record { one = a; two = b; first = refl; second = refl; makes = cc }

pub with_both_is : {A B C : Type 0} (f : A → B → C) {o : Option A} {p : Option B} (a : A) (b : B) → o ≡ Some a → p ≡ Some b → with_both f o p ≡ Some (f a b)
with_both_is f {o} {p} a b d e = ap (λ x. with_both f x p) d ∙ ap (with_both f (Some a)) e

-- two things side by side
abbrev pub beside : {A B : Type 0} → A → B → A × B
beside a b = (a, b)

and_cross : (p q u v : Bool) → (((p && q) && true) && (u && v)) ≡ ((p && u) && (q && v))
and_cross true true u v = refl
and_cross true false true v = refl
and_cross true false false v = refl
and_cross false q u v = refl

module _ {A B : Type 0} (F : Form A) (G : Form B) where
  -- the parts' numbers are together at most 4,095
  abbrev pub roomy : Bool
  roomy = few_enough (length F.slots) (length G.slots)

  abbrev pub pair_slots : List Slot
  pair_slots = cond roomy (F.slots ++ G.slots) []

  abbrev pub pair_able : Bool
  pair_able = (F.able && G.able) && roomy

  -- the first part's numbers, and the second's
  abbrev pub front : List ℤ → List ℤ
  front xs = take (length F.slots) xs

  abbrev pub rest : List ℤ → List ℤ
  rest xs = drop (length F.slots) xs

  abbrev pub pair_means : List ℤ → Option (A × B)
  pair_means xs = with_both beside (F.means (front xs)) (G.means (rest xs))

  abbrev pub pair_tells : A × B → Option (List ℤ)
  pair_tells m = cond roomy (with_both ◌++◌ (F.tells m.0) (G.tells m.1)) None

  -- numbers are in range just when each part's are
  pub pair_in_range : (xs : List ℤ) → roomy ≡ true → (pair_able && fit pair_slots xs) ≡ (in_range F (front xs) && in_range G (rest xs))
  pair_in_range xs e =
      rw (e, fit_append F.slots G.slots xs) (and_cross F.able G.able (fit F.slots (front xs)) (fit G.slots (rest xs)))

  pub pair_few : length pair_slots ≤ 4095
  pair_few =
      elim (cases_Bool roomy) [
        | inl e ↦ rw (e, length-append F.slots G.slots) (leb-true _ _ e)
        | inr e ↦ rw e (omega arith)
      ]

  pub pair_stored : storable pair_slots ≡ true
  pair_stored =
      elim (cases_Bool roomy) [
        | inl e ↦ rw (e, storable_append F.slots G.slots) (and_from _ _ F.stored G.stored)
        | inr e ↦ rw e
      ]

  pub pair_again : (xs : List ℤ) (m : A × B) → (pair_able && fit pair_slots xs) ≡ true → pair_means xs ≡ Some m → pair_tells m ≡ Some xs
  pair_again xs m h e =
      let r : roomy ≡ true = (and_parts (F.able && G.able) roomy (and_parts pair_able (fit pair_slots xs) h).0).1 in
      let s = and_parts (in_range F (front xs)) (in_range G (rest xs)) (sym (pair_in_range xs r) ∙ h) in
      let d = with_both_made beside (F.means (front xs)) (G.means (rest xs)) m e in
      let t : F.tells m.0 ≡ Some (front xs) = F.again (front xs) m.0 s.0 (d.first ∙ ap (λ (x : A × B). Some x.0) d.makes) in
      let u : G.tells m.1 ≡ Some (rest xs) = G.again (rest xs) m.1 s.1 (d.second ∙ ap (λ (x : A × B). Some x.1) d.makes) in
      rw r (with_both_is ◌++◌ (front xs) (rest xs) t u ∙ ap Some (take-append-drop (length F.slots) xs))

  told_roomy : (m : A × B) (xs : List ℤ) → pair_tells m ≡ Some xs → roomy ≡ true
  told_roomy m xs e = elim (cases_Bool roomy) [ inl r ↦ r | inr r ↦ absurd (none-some xs (rw r at e)) ]

  pub pair_back : (m : A × B) (xs : List ℤ) → pair_tells m ≡ Some xs → ((pair_able && fit pair_slots xs) ≡ true) × (pair_means xs ≡ Some m)
  pair_back m xs e =
      let r = told_roomy m xs e in
      let d = with_both_made ◌++◌ (F.tells m.0) (G.tells m.1) xs (rw r at e) in
      let f = F.back m.0 d.one d.first in
      let g = G.back m.1 d.two d.second in
      let n = told_length F m.0 d.one d.first in
      let p : front xs ≡ d.one = ap front (sym d.makes) ∙ take_at d.one d.two _ n in
      let q : rest xs ≡ d.two = ap rest (sym d.makes) ∙ drop_at d.one d.two _ n in (
        pair_in_range xs r ∙ rw (p, q) (and_from _ _ f.0 g.0),
        with_both_is beside m.0 m.1 (ap F.means p ∙ f.1) (ap G.means q ∙ g.1),
      )

-- how pairs are written
abbrev pub pair_form : {A B : Type 0} → Form A → Form B → Form (A × B)
pair_form F G = record {
  slots = pair_slots F G;
  few = pair_few F G;
  stored = pair_stored F G;
  able = pair_able F G;
  means = pair_means F G;
  tells = pair_tells F G;
  again = pair_again F G;
  back = pair_back F G;
}

-- a pair has as many slots as its parts together, or none where those are too many
pub pair_counted : {A B : Type 0} (F : Form A) (G : Form B) {a b : ℕ} → a ≡ length F.slots → b ≡ length G.slots → pair_count a b ≡ length (pair_form F G).slots
pair_counted F G p q =
    rw (p, q) (elim (cases_Bool (roomy F G)) [ inl e ↦ rw (e, length-append F.slots G.slots) | inr e ↦ rw e ])

-- A search among the records in use is a search in the pool of which they are the front.
use Rattle.std.proofs.Common.{◌≡◌, ℕ, ◌<◌, ◌≤◌, List, length, take, Some, Ok, Err, Result, sym, refl, ◌∙◌, subst, arith}
use Rattle.std.specs.List.{slice_get}
use Rattle.std.proofs.lemmas.List.{length-take-le}
use Rattle.label.specs.Order.{Order}
use Rattle.growth.specs.Entry.{Sight}
use Rattle.survey.specs.Asking.{AskClause}
use Rattle.survey.specs.declared.records.Record.{Record}
use Rattle.survey.specs.declared.search.Place.{Place}
use Rattle.survey.proofs.Places.{nth_take}
use Rattle.survey.proofs.Trees.{Alike, comes_inside, comes_kept}

module _ {L M : Type 0} (O : Order M) (stands : L → M) (used : ℕ) (pool : List (Record L)) (x : Sight M) where
  -- a record of the front is the pool's, and the other way round
  front_alike : (i : ℕ) (r : Record L) → i < used → slice_get (take used pool) i ≡ Some r → Alike O stands used pool i r
  front_alike i r h read = record { now_there = r; read = sym (nth_take used pool i h) ∙ read; same_sight = refl; same_below = λ l. refl; same_above = λ l. refl }

  pool_alike : (i : ℕ) (r : Record L) → i < used → slice_get pool i ≡ Some r → Alike O stands used (take used pool) i r
  pool_alike i r h read = record { now_there = r; read = nth_take used pool i h ∙ read; same_sight = refl; same_below = λ l. refl; same_above = λ l. refl }

  -- what a search among as many records answers
  told : (root : ℕ) → root < used → (a : Result ℕ Place) → AskClause O stands used (take used pool) x root a → AskClause O stands used pool x root a
  told root h (Ok k) c = (c.0, record { what = c.1.what; read = sym (nth_take used pool k c.0) ∙ c.1.read; same = c.1.same })
  told root h (Err p) c = record {
    inside = c.inside;
    comes = comes_kept O stands used used (take used pool) pool (omega arith) front_alike x root p.under h c.comes;
    stops = record { what = c.stops.what; read = sym (nth_take used pool p.under c.inside) ∙ c.stops.read; side = c.stops.side; void = c.stops.void };
    nowhere = λ k has comes.
        let inside = comes_inside O stands used pool x root k h comes in
        c.nowhere k (record { what = has.what; read = nth_take used pool k inside ∙ has.read; same = has.same })
        (comes_kept O stands used used pool (take used pool) (omega arith) pool_alike x root k h comes);
  }

  -- what a search among the records in use answers, it answers of the pool
  pub ask_front : used ≤ length pool → (root : ℕ) → root < used → (a : Result ℕ Place) → AskClause O stands (length (take used pool)) (take used pool) x root a → AskClause O stands used pool x root a
  ask_front long root h a c = told root h a (subst (λ (n : ℕ). AskClause O stands n (take used pool) x root a) (length-take-le used pool long) c)

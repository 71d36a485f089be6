-- A step that asks for one junction.
use Rattle.std.proofs.Common.{◌≡◌, ℕ, ◌<◌, List, [], ◌∷◌, length, Ok, Err, Result, sym, refl, subst, arith}
use Rattle.label.specs.Order.{Order}
use Rattle.growth.specs.Entry.{Sight, Entry, about}
use Rattle.growth.specs.Noted.{Noted}
use Rattle.growth.proofs.Notes.{noted_there, noted_new, overfull_here}
use Rattle.survey.specs.Found.{junction_of, unlinked_record, found}
use Rattle.survey.specs.Searching.{Searchable}
use Rattle.survey.specs.Asking.{HasIt, Missed}
use Rattle.survey.specs.Stepping.{Added, Kept, held, Stepped}
use Rattle.survey.specs.declared.records.Junction.{Junction}
use Rattle.survey.specs.declared.records.Record.{Record}
use Rattle.survey.specs.declared.search.Exhausted.{Exhausted}
use Rattle.survey.specs.declared.search.Place.{Place}
use Rattle.survey.specs.declared.shelling.Shelling.{Shelling}
use Rattle.survey.proofs.Trees.{asked_there, missed_new, linked_kept, linked_found, linked_searchable, found_count}
use Rattle.survey.proofs.Steps.{kept_itself}

module _ {L M : Type 0} (O : Order M) (stands : L → M) (s s' : Shelling L) (j : Junction L) where
  -- the junction, as it is seen from the centre
  abbrev pub seen : Sight M
  seen = about s.centre (junction_of stands j)

  -- it is there
  pub stepped_there : s'.pool.ghost_name ≡ s.pool.ghost_name → s'.centre ≡ s.centre → s'.distance ≡ s.distance → s'.used ≡ s.used → s'.pool.now ≡ s.pool.now → (k : ℕ) → k < s.used → HasIt O stands s.used s.pool.now seen k → Stepped O stands s (seen ∷ []) (Ok tt) s'
  stepped_there lent centre distance used_is pool_is k h a = record {
    steady = record { centre = centre; distance = distance; long = subst (λ (q : List (Record L)). length q ≡ length s.pool.now) (sym pool_is) refl; same = lent };
    more = omega arith;
    kept = subst (λ (q : List (Record L)). Kept O stands s.used s.pool.now q) (sym pool_is) (kept_itself O stands s.used s.pool.now);
    enlarged = λ q.
        subst (λ (n : ℕ). Noted s.distance (held O stands s) (seen ∷ []) (found stands n s'.pool.now) × Searchable O stands n s'.pool.now) (sym used_is)
        (subst (λ (p : List (Record L)). Noted s.distance (held O stands s) (seen ∷ []) (found stands s.used p) × Searchable O stands s.used p) (sym pool_is)
        (noted_there s.distance (held O stands s) seen (asked_there O stands s.used s.pool.now seen k h a), q));
  }

  -- it is missing, and has a record then or finds the pool full
  pub stepped_new : (p : Place) → Missed O stands s.used s.pool.now seen s.centre p → (r : Result Unit Exhausted) → Added s j p r s' → Stepped O stands s (seen ∷ []) r s'
  stepped_new p m (Ok u) a =
      let e = unlinked_record s.centre j s.distance in
      record {
        steady = a.0;
        more = let q = a.2 in omega arith;
        kept = linked_kept O stands s.used s.pool.now s'.pool.now seen s.centre p e m.inside m.stops a.3 a.1;
        enlarged = λ q.
            subst (λ (n : ℕ). Noted s.distance (held O stands s) (seen ∷ []) (found stands n s'.pool.now) × Searchable O stands n s'.pool.now) (sym a.2) (
              subst (λ (es : List (Entry M)). Noted s.distance (held O stands s) (seen ∷ []) es) (sym (linked_found O stands s.used s.pool.now s'.pool.now seen s.centre p e m.inside m.stops a.3 a.1))
                  (noted_new s.distance (held O stands s) seen (missed_new O stands s.used s.pool.now seen p s.in_room m q)),
              linked_searchable O stands s.used s.pool.now s'.pool.now seen s.centre p e m.inside m.stops a.3 a.1 m.comes s.homed refl refl q,
            );
      }
  stepped_new p m (Err e) a = record {
    steady = a.0;
    more = let q = a.2 in omega arith;
    kept = subst (λ (q : List (Record L)). Kept O stands s.used s.pool.now q) (sym a.3) (kept_itself O stands s.used s.pool.now);
    enlarged = λ q.
        overfull_here s.distance (length s.pool.now) (held O stands s) seen (missed_new O stands s.used s.pool.now seen p s.in_room m q)
        (let n = found_count stands s.used s.pool.now s.in_room in let f = a.1 in omega arith);
  }

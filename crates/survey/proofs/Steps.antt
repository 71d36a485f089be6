-- Steps that add to the found list, one after another.
use Rattle.std.proofs.Common.{ℕ, ◌≤◌, List, [], ◌++◌, length, Ok, Err, Result, refl, ◌∙◌, subst, arith}
use Rattle.label.specs.Order.{Order}
use Rattle.growth.specs.Entry.{Sight}
use Rattle.growth.specs.Noted.{Noted, Overfull}
use Rattle.growth.proofs.Notes.{noted_none, noted_join, overfull_left, overfull_right}
use Rattle.survey.specs.Stepping.{Kept, held, Stepped, Enlarged}
use Rattle.survey.specs.declared.records.Record.{Record}
use Rattle.survey.specs.declared.shelling.Shelling.{Shelling}
use Rattle.survey.specs.declared.search.Exhausted.{Exhausted}

module _ {L M : Type 0} (O : Order M) (stands : L → M) where
  pub kept_itself : (used : ℕ) (pool : List (Record L)) → Kept O stands used pool pool
  kept_itself used pool = record { entries = λ w h. refl; searches = λ w h s. s }

  pub kept_join : (used u : ℕ) (pool pool' pool'' : List (Record L)) → used ≤ u → Kept O stands used pool pool' → Kept O stands u pool' pool'' → Kept O stands used pool pool''
  kept_join used u pool pool' pool'' le k l = record {
    entries = λ w h. l.entries w (omega arith) ∙ k.entries w h;
    searches = λ w h s. l.searches w (omega arith) (k.searches w h s);
  }

  -- nothing is asked
  pub stepped_none : (s : Shelling L) → Stepped O stands s [] (Ok tt) s
  stepped_none s = record {
    steady = record { centre = refl; distance = refl; long = refl; same = refl };
    more = omega arith;
    kept = kept_itself s.used s.pool.now;
    enlarged = λ q. (noted_none s.distance (held O stands s), q);
  }

  module _ (s s' s'' : Shelling L) where
    -- one step after another
    pub stepped_join : (T U : List (Sight M)) (r : Result Unit Exhausted) → Stepped O stands s T (Ok tt) s' → Stepped O stands s' U r s'' → Stepped O stands s (T ++ U) r s''
    stepped_join T U r a b = record {
      steady = record { centre = b.steady.centre ∙ a.steady.centre; distance = b.steady.distance ∙ a.steady.distance; long = b.steady.long ∙ a.steady.long; same = b.steady.same ∙ a.steady.same };
      more = let m = a.more in let n = b.more in omega arith;
      kept = kept_join s.used s'.used s.pool.now s'.pool.now s''.pool.now a.more a.kept b.kept;
      enlarged = λ q. let n = a.enlarged q in joined r n.0 (b.enlarged n.1);
    }
      where
        joined : (q : Result Unit Exhausted) → Noted s.distance (held O stands s) T (held O stands s') → Enlarged O stands s' U q s'' → Enlarged O stands s (T ++ U) q s''
        joined (Ok v) n m = (noted_join s.distance (held O stands s) T (held O stands s') U (held O stands s'') n (subst (λ (d : ℕ). Noted d (held O stands s') U (held O stands s'')) a.steady.distance m.0), m.1)
        joined (Err e) n m =
            overfull_right s.distance (length s.pool.now) (held O stands s) T (held O stands s') U n
            (subst (λ (k : ℕ). Overfull s.distance k (held O stands s') U) a.steady.long (subst (λ (d : ℕ). Overfull d (length s'.pool.now) (held O stands s') U) a.steady.distance m))

  -- where the records do not suffice for some of what is asked, they do not for all
  pub stepped_short : (s s' : Shelling L) (T U : List (Sight M)) (e : Exhausted) → Stepped O stands s T (Err e) s' → Stepped O stands s (T ++ U) (Err e) s'
  stepped_short s s' T U e a = record {
    steady = a.steady;
    more = a.more;
    kept = a.kept;
    enlarged = λ q. overfull_left s.distance (length s.pool.now) (held O stands s) T U (a.enlarged q);
  }

-- What a call that adds to the found list leaves of it, and what it answers. Assumes nothing.
use Rattle.std.specs.Prelude.{◌≡◌, ℕ, ◌+◌, ◌<◌, ◌≤◌, List, length, Some, Ok, Err, Result, slice_set}
use Rattle.std.specs.List.{slice_get}
use Rattle.label.specs.Order.{Order}
use Rattle.growth.specs.Entry.{Sight, Entry}
use Rattle.growth.specs.Noted.{Noted, Overfull}
use Rattle.survey.specs.Found.{found, unlinked_record}
use Rattle.survey.specs.Searching.{Searchable}
use Rattle.survey.specs.declared.records.Junction.{Junction}
use Rattle.survey.specs.declared.records.Record.{Record}
use Rattle.survey.specs.declared.search.Exhausted.{Exhausted}
use Rattle.survey.specs.declared.search.Place.{Place}
use Rattle.survey.specs.declared.search.Side.{Side}
use Rattle.survey.specs.declared.search.Side.TheVariants as side
use Rattle.survey.specs.declared.shelling.Shelling.{Shelling}

-- the record with another link at that side
abbrev pub with_link : {L : Type 0} → Side → ℕ → Record L → Record L
with_link side.Lesser to r = record { centre = r.centre; junction = r.junction; distance = r.distance; below = to; above = r.above }
with_link side.Greater to r = record { centre = r.centre; junction = r.junction; distance = r.distance; below = r.below; above = to }

-- one record more, linked from the place at which it is missing
pub record Linked {L : Type 0} (used : ℕ) (pool : List (Record L)) (p : Place) (e : Record L) (pool' : List (Record L)) : Type 0 where
  pub parent : Record L
  pub read : slice_get pool p.under ≡ Some parent
  pub wrote : pool' ≡ slice_set (slice_set pool p.under (with_link p.side used parent)) used e

-- the same is noted at, over as many records, lent by the same borrow
pub record Steady {L : Type 0} (s s' : Shelling L) : Type 0 where
  pub centre : s'.centre ≡ s.centre
  pub distance : s'.distance ≡ s.distance
  pub long : length s'.pool.now ≡ length s.pool.now
  pub same : s'.pool.ghost_name ≡ s.pool.ghost_name

-- the junction has a record, or every record is in use
abbrev pub Added : {L : Type 0} → Shelling L → Junction L → Place → Result Unit Exhausted → Shelling L → Type 0
Added s j p (Ok u) s' = Steady s s' × (s.used < length s.pool.now) × (s'.used ≡ s.used + 1) × Linked s.used s.pool.now p (unlinked_record s.centre j s.distance) s'.pool.now
Added s j p (Err e) s' = Steady s s' × (length s.pool.now ≤ s.used) × (s'.used ≡ s.used) × (s'.pool.now ≡ s.pool.now)

module _ {L M : Type 0} (O : Order M) (stands : L → M) where
  -- every front of the records in use stands for what it stood for, and is searched as it was
  pub record Kept (used : ℕ) (pool pool' : List (Record L)) : Type 0 where
    pub entries : (w : ℕ) → w ≤ used → found stands w pool' ≡ found stands w pool
    pub searches : (w : ℕ) → w ≤ used → Searchable O stands w pool → Searchable O stands w pool'

  -- the found list of a shell that is noted
  abbrev pub held : Shelling L → List (Entry M)
  held s = found stands s.used s.pool.now

  -- the asked sights are noted, or the records do not suffice
  abbrev pub Enlarged : Shelling L → List (Sight M) → Result Unit Exhausted → Shelling L → Type 0
  Enlarged s asked (Ok u) s' = Noted s.distance (held s) asked (held s') × Searchable O stands s'.used s'.pool.now
  Enlarged s asked (Err e) s' = Overfull s.distance (length s.pool.now) (held s) asked

  -- what was in use is kept, and over records that can be searched the asked sights are noted
  pub record Stepped (s : Shelling L) (asked : List (Sight M)) (r : Result Unit Exhausted) (s' : Shelling L) : Type 0 where
    pub steady : Steady s s'
    pub more : s.used ≤ s'.used
    pub kept : Kept s.used s.pool.now s'.pool.now
    pub enlarged : Searchable O stands s.used s.pool.now → Enlarged s asked r s'

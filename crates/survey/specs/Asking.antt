-- What the parts of a search answer. Assumes nothing.
use Rattle.std.specs.Prelude.{◌≡◌, ℕ, ◌<◌, List, Some, Ok, Err, Result}
use Rattle.std.specs.declared.cmp.Ordering.TheVariants.{Less, Greater}
use Rattle.std.specs.declared.cmp.Ordering.{Ordering}
use Rattle.std.specs.List.{slice_get}
use Rattle.label.specs.Order.{Order}
use Rattle.growth.specs.Entry.{Sight}
use Rattle.growth.specs.SightOrder.{sight_order}
use Rattle.survey.specs.Found.{sight_of}
use Rattle.survey.specs.Searching.{Leads, Goes, Comes}
use Rattle.survey.specs.declared.records.Record.{Record}
use Rattle.survey.specs.declared.search.Place.{Place}
use Rattle.survey.specs.declared.search.Turn.{Turn}
use Rattle.survey.specs.declared.search.Turn.TheVariants as turn
use Rattle.survey.specs.declared.search.Side.{Side}
use Rattle.survey.specs.declared.search.Side.TheVariants as side

-- how what is searched for compares where the search goes on at that side of a record
abbrev pub side_of : Side → Ordering
side_of side.Lesser = Less
side_of side.Greater = Greater

-- the record's link at that side
abbrev pub link_of : {L : Type 0} → Side → Record L → ℕ
link_of side.Lesser r = r.below
link_of side.Greater r = r.above

-- the search goes on along the link if it counts, and stops at that side if it does not
abbrev pub AlongClause : (used i link : ℕ) → Side → Turn → Type 0
AlongClause used i link at turn.Here = ⊥
AlongClause used i link at (turn.On j) = (j ≡ link) × Leads used i link
AlongClause used i link at (turn.Stop end) = (end ≡ at) × (Leads used i link → ⊥)

module _ {L M : Type 0} (O : Order M) (stands : L → M) (used : ℕ) (pool : List (Record L)) (x : Sight M) where
  -- the record has the sight
  pub record HasIt (i : ℕ) : Type 0 where
    pub what : Record L
    pub read : slice_get pool i ≡ Some what
    pub same : sight_of stands what ≡ x

  -- the search goes no further than the record i, at that side
  pub record Stops (i : ℕ) (at : Side) : Type 0 where
    pub what : Record L
    pub read : slice_get pool i ≡ Some what
    pub side : (sight_order O).cmp x (sight_of stands what) ≡ side_of at
    pub void : Leads used i (link_of at what) → ⊥

  abbrev pub TurnClause : ℕ → Turn → Type 0
  TurnClause i turn.Here = HasIt i
  TurnClause i (turn.On j) = Goes O stands used pool x i j × (i < j) × (j < used)
  TurnClause i (turn.Stop at) = Stops i at

  -- the search from root for x stops under a record, and comes to no record with x
  pub record Missed (root : ℕ) (p : Place) : Type 0 where
    pub inside : p.under < used
    pub comes : Comes O stands used pool x root p.under
    pub stops : Stops p.under p.side
    pub nowhere : (k : ℕ) → HasIt k → Comes O stands used pool x root k → ⊥

  abbrev pub AskClause : ℕ → Result ℕ Place → Type 0
  AskClause root (Ok k) = (k < used) × HasIt k
  AskClause root (Err p) = Missed root p

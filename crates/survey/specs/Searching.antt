-- The search tree in the records of a pool: which records a search comes to. Assumes nothing.
use Rattle.std.specs.Prelude.{◌≡◌, ℕ, ◌<◌, List, Some}
use Rattle.std.specs.declared.cmp.Ordering.TheVariants.{Less, Greater}
use Rattle.std.specs.List.{slice_get}
use Rattle.label.specs.Order.{Order}
use Rattle.growth.specs.Entry.{Sight}
use Rattle.growth.specs.SightOrder.{sight_order}
use Rattle.survey.specs.Found.{sight_of}
use Rattle.survey.specs.declared.records.Record.{Record}

-- a link from the record i counts only if it leads to a later record in use
abbrev pub Leads : (used i link : ℕ) → Type 0
Leads used i link = (i < link) × (link < used)

module _ {L M : Type 0} (O : Order M) (stands : L → M) (used : ℕ) (pool : List (Record L)) where
  -- the search for x goes on from the record i to the record j
  pub data Goes (x : Sight M) (i j : ℕ) : Type 0 where
    lesser : (r : Record L) → slice_get pool i ≡ Some r → (sight_order O).cmp x (sight_of stands r) ≡ Less → j ≡ r.below → Leads used i j → Goes x i j
    greater : (r : Record L) → slice_get pool i ≡ Some r → (sight_order O).cmp x (sight_of stands r) ≡ Greater → j ≡ r.above → Leads used i j → Goes x i j

  -- the search for x that begins at the record root comes to the record k
  pub data Comes (x : Sight M) (root : ℕ) : ℕ → Type 0 where
    begins : Comes x root root
    goes : {i j : ℕ} → Comes x root i → Goes x i j → Comes x root j

  -- the search for each used record's sight, begun at the record of its centre's home, comes to that record
  abbrev pub Searchable : Type 0
  Searchable = (k : ℕ) (r : Record L) → k < used → slice_get pool k ≡ Some r → Comes (sight_of stands r) r.centre k

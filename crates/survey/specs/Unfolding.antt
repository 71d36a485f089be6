-- What one round of growth leaves: the next shell of each node after the other. Assumes nothing.
use Rattle.std.specs.Prelude.{◌≡◌, ℕ, suc, ◌<◌, ◌≤◌, List, length, Ok, Err, Result, slice_index}
use Rattle.std.specs.List.{between}
use Rattle.label.specs.Group.{Group}
use Rattle.label.specs.Order.{Order}
use Rattle.net.specs.Model.{net_of}
use Rattle.net.specs.declared.records.Line.{Line}
use Rattle.growth.specs.Entry.{Entry, junctions}
use Rattle.growth.specs.Noted.{Overfull}
use Rattle.growth.specs.Surveyed.{Growing, targets}
use Rattle.survey.specs.Found.{found}
use Rattle.survey.specs.Searching.{Searchable}
use Rattle.survey.specs.Stepping.{Kept}
use Rattle.survey.specs.Marks.{mark_of}
use Rattle.survey.specs.declared.records.Record.{Record}
use Rattle.survey.specs.declared.search.Exhausted.{Exhausted}
use Rattle.survey.specs.declared.surveys.Survey.{Survey}
use Rattle.survey.specs.declared.surveys.Frontier.{Frontier}

module _ {L M : Type 0} (G : Group M) (O : Order M) (stands : L → M) (s : Survey) (list : List (Line L)) (pool : List (Record L)) where
  -- the next shells of the first c nodes are marked and noted
  pub record Unfolded (c : ℕ) (f : Frontier) (pool' : List (Record L)) : Type 0 where
    pub marked : length f.marks ≡ 25
    pub ordered : (v : ℕ) → v < c → slice_index f.marks v ≤ slice_index f.marks (suc v)
    pub inside : (v : ℕ) → v ≤ c → slice_index f.marks v ≤ f.used
    pub more : s.used ≤ f.used
    pub room : f.used ≤ length pool
    pub kept : Kept O stands s.used pool pool'
    pub searchable : Searchable O stands s.used pool → Searchable O stands f.used pool'
    pub growing : Searchable O stands s.used pool →
        Growing G (net_of stands s.draft list) s.radius (mark_of s.marks) (found stands s.used pool) c (slice_index f.marks) (found stands f.used pool')

  -- the records ran out while the next shell of a node was noted
  pub record RanOut : Type 0 where
    pub node : ℕ
    pub is_node : node < s.draft.nodes
    pub next : ℕ → ℕ
    pub held : List (Entry M)
    pub growing : Growing G (net_of stands s.draft list) s.radius (mark_of s.marks) (found stands s.used pool) node next held
    pub overfull : Overfull (suc s.radius) (length pool) held (targets G (net_of stands s.draft list) node (junctions (between (mark_of s.marks s.radius node) (mark_of s.marks s.radius (suc node)) (found stands s.used pool))))

  abbrev pub UnfoldClause : Result Frontier Exhausted → List (Record L) → Type 0
  UnfoldClause (Ok f) pool' = Unfolded s.draft.nodes f pool'
  UnfoldClause (Err e) pool' = Kept O stands s.used pool pool' × (Searchable O stands s.used pool → RanOut)

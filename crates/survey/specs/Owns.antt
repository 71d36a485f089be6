-- When list and pool are the survey's own: the list holds a drawn net, and the pool its balls up to the radius. Assumes nothing.
use Rattle.std.specs.Prelude.{◌≡◌, ℕ, suc, ◌-◌, List, length}
use Rattle.label.specs.Group.{Group}
use Rattle.label.specs.Order.{Order}
use Rattle.mesh.specs.Drawn.{Drawn}
use Rattle.net.specs.Model.{net_of}
use Rattle.net.specs.declared.records.Line.{Line}
use Rattle.growth.specs.Surveyed.{Surveyed}
use Rattle.survey.specs.Found.{found}
use Rattle.survey.specs.Marks.{mark_of}
use Rattle.survey.specs.Searching.{Searchable}
use Rattle.survey.specs.declared.records.Record.{Record}
use Rattle.survey.specs.declared.surveys.Survey.{Survey}

-- how many records lie between the marks of the shell k of the node v
abbrev pub size_of : Survey → ℕ → ℕ → ℕ
size_of s v k = mark_of s.marks k (suc v) - mark_of s.marks k v

pub record Owns {L M : Type 0} (G : Group M) (O : Order M) (stands : L → M) (s : Survey) (list : List (Line L)) (pool : List (Record L)) : Type 0 where
  pub own_list : length list ≡ s.draft.room
  pub own_pool : length pool ≡ s.room
  pub drawn : Drawn G (net_of stands s.draft list)
  pub searchable : Searchable O stands s.used pool
  pub surveyed : Surveyed G (net_of stands s.draft list) s.radius (mark_of s.marks) (found stands s.used pool)

-- Where the records of a shell lie. Assumes nothing.
use Rattle.std.specs.Prelude.{◌≡◌, ℕ, suc, ◌<◌, ◌≤◌}
use Rattle.std.specs.declared.ops.Range.{Range}
use Rattle.survey.specs.Marks.{mark_of}
use Rattle.survey.specs.declared.surveys.Survey.{Survey}

-- the part between the marks of the shell k of the node v
pub record Spanned (s : Survey) (records v k : ℕ) (p : Range ℕ) : Type 0 where
  pub node : v < s.draft.nodes
  pub near : k ≤ s.radius
  pub begins : p.start ≡ mark_of s.marks k v
  pub ends : p.end ≡ mark_of s.marks k (suc v)
  pub ordered : p.start ≤ p.end
  pub in_use : p.end ≤ s.used
  pub inside : p.end ≤ records

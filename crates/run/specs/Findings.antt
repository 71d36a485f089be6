-- What every survey answers that calls reach. Assumes nothing.
use Rattle.std.specs.Prelude.{◌≡◌, ℕ, suc, ◌^◌, ◌<◌, ◌≤◌, ◌↔◌, List, map, length, Some, None, Ok, Err, Option, Result}
use Rattle.std.specs.List.{slice_get}
use Rattle.label.specs.Group.{Group}
use Rattle.label.specs.Order.{Order}
use Rattle.mesh.specs.Distance.{Distance, Within}
use Rattle.mesh.specs.Exactly.{Exactly}
use Rattle.mesh.specs.Junction as mesh
use Rattle.mesh.specs.Link.{Link}
use Rattle.mesh.specs.Net.{Net}
use Rattle.net.specs.declared.records.Line.{Line}
use Rattle.growth.specs.Surveyed.{Balls}
use Rattle.survey.specs.Found.{junction_of}
use Rattle.survey.specs.Clauses.{CountClause, MemberClause, Next, NextClause, DistanceClause, GrowClause, Before}
use Rattle.survey.specs.declared.records.Junction.{Junction}
use Rattle.survey.specs.declared.records.Record.{Record}
use Rattle.survey.specs.declared.surveys.Survey.{Survey}
use Rattle.survey.specs.declared.refusals.SurveyRefusal.{SurveyRefusal}
use Rattle.survey.specs.declared.refusals.SurveyRefusal.TheVariants.{PoolFull, NoSuchMember}
use Rattle.run.specs.Stage.{surveyed}
use Rattle.run.specs.Run.{Run}
use Rattle.run.specs.declared.state.State.TheVariants.{Surveying}

module _ {L M : Type 0} (G : Group M) (O : Order M) (stands : L → M) where
  -- the answers of `count` and `member` for one shell: exactly the shell about every junction of the node, in ascending order
  pub record ShellTold (net : Net M) (v k : ℕ) (counted : Result ℕ SurveyRefusal) (member : ℕ → Result (Junction L) SurveyRefusal) : Type 0 where
    pub number : ℕ
    pub count : counted ≡ Ok number
    pub members : List (mesh.Junction M)
    pub long : length members ≡ number
    -- each member is told at its place, and none past the last; a place is a number of 32 bits
    pub told : (i : ℕ) → i < number → (j : Junction L) × (member i ≡ Ok j) × (slice_get members i ≡ Some (junction_of stands j))
    pub no_more : (i : ℕ) → number ≤ i → i < 2 ^ 32 → member i ≡ Err NoSuchMember
    -- carried to any junction of the node, they are what is k from it, each once
    pub carried : (h : M) → Exactly (Distance (Link G net) k (mesh.spot v h)) (map (mesh.carry G h) members)
    pub ascend : (i j : ℕ) (b c : mesh.Junction M) → i < j → slice_get members i ≡ Some b → slice_get members j ≡ Some c → Before G O stands b c

  -- the answer of `distance` is the distance, if that is within the radius, and none exactly if it is not
  pub record DistanceTold (net : Net M) (r v : ℕ) (j : Junction L) (a : Result (Option ℕ) SurveyRefusal) : Type 0 where
    pub reach : Option ℕ
    pub answer : a ≡ Ok reach
    pub at : (k : ℕ) → (reach ≡ Some k) ↔ ((k ≤ r) × Distance (Link G net) k (mesh.home G v) (junction_of stands j))
    pub beyond : (reach ≡ None) ↔ (Within (Link G net) r (mesh.home G v) (junction_of stands j) → ⊥)

  -- below the greatest radius, growing is refused exactly if the next balls, summed over all nodes, outnumber the records
  pub record RoomTold (net : Net M) (r : ℕ) (records : ℕ) (a : Result Unit SurveyRefusal) : Type 0 where
    pub total : ℕ
    pub balls : Balls G net (suc r) total
    pub full : (a ≡ Err PoolFull) ↔ (records < total)
    pub grows : (a ≡ Ok tt) ↔ (total ≤ records)

  -- what the survey answers of every shell within the radius and of every junction of the net, and when it grows
  pub record Findings (net : Net M) (r : ℕ) (s : Survey) (list : List (Line L)) (pool : List (Record L)) : Type 0 where
    pub shells : (v k : ℕ) → v < net.nodes → k ≤ r → (counted : Result ℕ SurveyRefusal) → CountClause G O stands s list pool v k counted → (member : ℕ → Result (Junction L) SurveyRefusal) → ((i : ℕ) → i < 2 ^ 32 → MemberClause G O stands s list pool v k i (member i)) → ShellTold net v k counted member
    pub nexts : (v k : ℕ) → v < net.nodes → k ≤ r → (floor : Junction L) (a : Result (Option (Junction L)) SurveyRefusal) → NextClause G O stands s list pool v k floor a → (found : Option (Junction L)) × (a ≡ Ok found) × Next G O stands net v k (junction_of stands floor) found
    pub distances : (v : ℕ) (j : Junction L) → v < net.nodes → j.node < net.nodes → (a : Result (Option ℕ) SurveyRefusal) → DistanceClause G O stands s list pool v j a → DistanceTold net r v j a
    pub room : r < 16 → (a : Result Unit SurveyRefusal) (s' : Survey) (pool' : List (Record L)) → GrowClause G O stands s list pool a s' pool' → RoomTold net r (length pool) a

  -- whichever calls reach the survey
  abbrev pub FindingsHold : Type 0
  FindingsHold = (net : Net M) (r : ℕ) (s : Survey) (list : List (Line L)) (pool : List (Record L)) → Run G O stands (surveyed net r) (Surveying s) list pool → Findings net r s list pool

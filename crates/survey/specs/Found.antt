-- The found list that the used records of a pool stand for. Assumes nothing.
use Rattle.std.specs.Prelude.{ℕ, List, map, take}
use Rattle.mesh.specs.Junction as mesh
use Rattle.growth.specs.Entry.{Sight, Entry, about, at_distance}
use Rattle.survey.specs.declared.records.Record.{Record}
use Rattle.survey.specs.declared.records.Junction.{Junction}

-- the record of a junction about a centre, with no links
abbrev pub unlinked_record : {L : Type 0} → ℕ → Junction L → ℕ → Record L
unlinked_record v j d = record { centre = v; junction = j; distance = d; below = 0; above = 0 }

module _ {L M : Type 0} (stands : L → M) where
  -- a junction, its label read as what it stands for
  abbrev pub junction_of : Junction L → mesh.Junction M
  junction_of j = mesh.spot j.node (stands j.label)

  -- the junction of a record, as it is found about its centre
  abbrev pub sight_of : Record L → Sight M
  sight_of r = about r.centre (junction_of r.junction)

  abbrev pub entry_of : Record L → Entry M
  entry_of r = at_distance r.distance (sight_of r)

  -- what the first records of the pool stand for
  abbrev pub found : ℕ → List (Record L) → List (Entry M)
  found used pool = map entry_of (take used pool)

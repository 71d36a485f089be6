-- A found list: junctions about centres, each with its distance, in the order in which they were found. Assumes nothing.
use Rattle.std.specs.Prelude.{ℕ, List, map}
use Rattle.mesh.specs.Junction.{Junction}

-- a junction, as it is found about the home of a node, its centre
pub record Sight (M : Type 0) : Type 0 where
  pub centre : ℕ
  pub junction : Junction M

-- a sight with its distance
pub record Entry (M : Type 0) : Type 0 where
  pub sight : Sight M
  pub distance : ℕ

-- the junction as it is found about v
abbrev pub about : {M : Type 0} → ℕ → Junction M → Sight M
about v b = record { centre = v; junction = b }

-- the entry of a sight at a distance
abbrev pub at_distance : {M : Type 0} → ℕ → Sight M → Entry M
at_distance d t = record { sight = t; distance = d }

-- the sights of a found list
abbrev pub sights : {M : Type 0} → List (Entry M) → List (Sight M)
sights E = map (λ e. e.sight) E

-- the junctions of a found list
abbrev pub junctions : {M : Type 0} → List (Entry M) → List (Junction M)
junctions E = map (λ e. e.sight.junction) E

-- A found list that holds the balls of a net's nodes, shell by shell. Assumes nothing.
use Rattle.std.specs.Prelude.{◌≡◌, ℕ, suc, ◌<◌, ◌≤◌, List, map, length, take, sum, slice_index}
use Rattle.std.specs.List.{between, flat_map}
use Rattle.label.specs.Group.{Group}
use Rattle.mesh.specs.Listed.{In}
use Rattle.mesh.specs.Exactly.{Distinct, Exactly, Many}
use Rattle.mesh.specs.Net.{Net}
use Rattle.mesh.specs.Junction.{Junction}
use Rattle.mesh.specs.Shell.{Shell, Ball}
use Rattle.mesh.specs.Target.{neighbours}
use Rattle.growth.specs.Entry.{Sight, Entry, about, sights, junctions}
use Rattle.growth.specs.Noted.{Noted}

-- how many junctions the balls of radius k have, summed over all nodes
pub record Balls {M : Type 0} (G : Group M) (net : Net M) (k total : ℕ) : Type 0 where
  pub numbers : List ℕ
  pub one_each : length numbers ≡ net.nodes
  pub each : (v : ℕ) → v < net.nodes → Many (Ball G net v k) (slice_index numbers v)
  pub adds : sum numbers ≡ total

-- the entry is of a node of the net, within the radius, and tells its distance
pub record Told {M : Type 0} (G : Group M) (net : Net M) (r : ℕ) (e : Entry M) : Type 0 where
  pub node : e.sight.centre < net.nodes
  pub near : e.distance ≤ r
  pub shell : Shell G net e.sight.centre e.distance e.sight.junction

-- the entries between two places are those about v at the distance k
pub record ShellPart {M : Type 0} (G : Group M) (net : Net M) (v k from to : ℕ) (E : List (Entry M)) : Type 0 where
  pub ordered : from ≤ to
  pub inside : to ≤ length E
  pub centres : (e : Entry M) → In e (between from to E) → e.sight.centre ≡ v
  pub distances : (e : Entry M) → In e (between from to E) → e.distance ≡ k
  pub shell : Exactly (Shell G net v k) (junctions (between from to E))

-- the list holds the balls of radius r: each sight once, each entry true, and each shell between the marks of its radius and node
pub record Surveyed {M : Type 0} (G : Group M) (net : Net M) (r : ℕ) (mark : ℕ → ℕ → ℕ) (E : List (Entry M)) : Type 0 where
  pub distinct : Distinct (sights E)
  pub told : (e : Entry M) → In e E → Told G net r e
  pub parts : (v k : ℕ) → v < net.nodes → k ≤ r → ShellPart G net v k (mark k v) (mark k (suc v)) E

-- what is linked to the junctions, as it is asked for about v
abbrev pub targets : {M : Type 0} → Group M → Net M → ℕ → List (Junction M) → List (Sight M)
targets G net v bs = flat_map (λ b. map (about v) (neighbours G net b)) bs

-- the first c nodes' next shells are noted one after another at the end of E; node v's ends at the mark of v + 1
pub record Growing {M : Type 0} (G : Group M) (net : Net M) (r : ℕ) (mark : ℕ → ℕ → ℕ) (E : List (Entry M)) (c : ℕ) (next : ℕ → ℕ) (E' : List (Entry M)) : Type 0 where
  pub first : next 0 ≡ length E
  pub last : next c ≡ length E'
  pub kept : take (length E) E' ≡ E
  pub ordered : (v : ℕ) → v < c → next v ≤ next (suc v)
  pub noted : (v : ℕ) → v < c → Noted (suc r) (take (next v) E') (targets G net v (junctions (between (mark r v) (mark r (suc v)) E))) (take (next (suc v)) E')

-- What a surveyed list answers: how many junctions a shell has, how far a junction is, and what is beyond the radius.
use Rattle.std.proofs.Common.{◌≡◌, ℕ, suc, ◌-◌, ◌<◌, ◌≤◌, List, sym, ◌∙◌, subst}
use lib.ListN.{length-map}
use Rattle.std.specs.List.{between}
use Rattle.std.proofs.lemmas.List.Edits.{length-between}
use Rattle.label.specs.Group.{Group}
use Rattle.mesh.specs.Listed.{In}
use Rattle.mesh.specs.Exactly.{Many}
use Rattle.mesh.specs.Distance.{Within}
use Rattle.mesh.specs.Net.{Net}
use Rattle.mesh.specs.Junction.{Junction, home}
use Rattle.mesh.specs.Link.{Link}
use Rattle.mesh.specs.Shell.{Shell, Ball}
use Rattle.mesh.proofs.Lists.{in_map, from_map}
use Rattle.growth.specs.Entry.{Sight, Entry, about, sights, junctions}
use Rattle.growth.specs.Surveyed.{Surveyed}
use Rattle.growth.proofs.Parts.{in_between}

module _ {M : Type 0} {G : Group M} {net : Net M} {r : ℕ} {mark : ℕ → ℕ → ℕ} {E : List (Entry M)} where
  pub surveyed_count : Surveyed G net r mark E → (v k : ℕ) → v < net.nodes → k ≤ r → Many (Shell G net v k) (mark k (suc v) - mark k v)
  surveyed_count s v k h near =
      let p = s.parts v k h near in
      let part = between (mark k v) (mark k (suc v)) E in
      record {
        which = junctions part;
        exactly = p.shell;
        count = length-map part (λ e. e.sight.junction) ∙ length-between E (mark k v) (mark k (suc v)) p.inside;
      }

  pub surveyed_found : Surveyed G net r mark E → (e : Entry M) → In e E → (v : ℕ) (b : Junction M) → e.sight ≡ about v b → Shell G net v e.distance b × (e.distance ≤ r)
  surveyed_found s e i v b p =
      let t = s.told e i in
      (subst (λ (x : Sight M). Shell G net x.centre e.distance x.junction) p t.shell, t.near)

  -- what is in a ball is found about its node
  pub surveyed_held : Surveyed G net r mark E → (v : ℕ) (b : Junction M) → v < net.nodes → Ball G net v r b → In (about v b) (sights E)
  surveyed_held s v b h w =
      let k = w.far in
      let p = s.parts v k h w.near in
      let part = between (mark k v) (mark k (suc v)) E in
      let f = from_map (λ e. e.sight.junction) b part (p.shell.all b w.distance) in
      let e = f.0 in
      let same : e.sight ≡ about v b = λ i. about (p.centres e f.1 i) (sym f.2 i) in
      subst (λ (t : Sight M). In t (sights E)) same (in_map (λ e. e.sight) e E (in_between e (mark k v) (mark k (suc v)) E f.1))

  pub surveyed_beyond : Surveyed G net r mark E → (v : ℕ) (b : Junction M) → v < net.nodes → (In (about v b) (sights E) → ⊥) → Within (Link G net) r (home G v) b → ⊥
  surveyed_beyond s v b h away w = away (surveyed_held s v b h w)

-- A map of meshes that goes port by port covers. Assumes nothing.
use Rattle.std.proofs.Common.{◌≡◌, ℕ, ◌+◌, ◌*◌, ◌<◌, ◌↔◌, map, length, get_or, sym, ap, ◌∙◌, subst, subst₂, arith}
use lib.ListN.{length-map, get_or-map}
use Rattle.std.proofs.lemmas.List.{get_or_default}
use Rattle.label.specs.Group.{Group}
use Rattle.mesh.specs.Listed.{In}
use Rattle.mesh.specs.Net.{Net}
use Rattle.mesh.specs.Junction.{Junction, home}
use Rattle.mesh.specs.Link.{Link}
use Rattle.mesh.specs.Ports.{Port, ports}
use Rattle.mesh.specs.Target.{target, neighbours}
use Rattle.mesh.proofs.Lists.{in_map, from_map, in_at}
use Rattle.mesh.proofs.Carries.{link_back}
use Rattle.mesh.proofs.Targets.{leads, led, port_link}
use Rattle.rings.specs.RingsOf.{RingsOf}
use Rattle.cover.specs.Apart.{Apart}
use Rattle.cover.specs.Covers.{Covers}
use Rattle.cover.specs.CoverLaws.{CoverLaws}
use Rattle.cover.specs.RingCoverLaws.{RingCoverLaws}
use Rattle.cover.specs.MeshMap.{MeshMap}
use Rattle.cover.specs.PortTarget.{port_target}
use Rattle.cover.specs.MeshCoverLaws.{MeshCoverLaws}
use Rattle.cover.proofs.Shells.{cover_laws}
use Rattle.cover.proofs.RingNumbers.{ring_cover_laws}

module _ {M N : Type 0} (G : Group M) (net : Net M) (H : Group N) (net' : Net N) (f : Junction M → Junction N) (mm : MeshMap G net H net' f) where
  pub mesh_covers : (R : ℕ) → Apart (Link G net) f R → Covers (Link G net) (Link H net') f R
  mesh_covers R apart = record {
    keeps = λ a b l. leads H net' (f a) (f b) (subst (λ xs. In (f b) xs) (mm.targets a) (in_map f b (neighbours G net a) (led G net a b l)));
    lifts = λ a b' l.
        let r = from_map f b' (neighbours G net a) (subst (λ xs. In b' xs) (sym (mm.targets a)) (led H net' (f a) b' l)) in
        (r.0, leads G net a r.0 r.1, sym r.2);
    apart = apart;
  }

  port_kept : (a : Junction M) (d : Port M) (d' : Port N) (i : ℕ) → i < length (ports G net a.node) → f (port_target G net a d i) ≡ port_target H net' (f a) d' i
  port_kept a d d' i h =
      let t = target G a.label in
      let t' = target H (f a).label in
      let ps = ports G net a.node in
      let ps' = ports H net' (f a).node in
      let z : length (neighbours H net' (f a)) ≡ length ps = ap length (sym (mm.targets a)) ∙ length-map (map t ps) f ∙ length-map ps t in
      let k : i < length (map t' ps') = omega arith in
      ap f (sym (get_or-map t ps i d))
      ∙ sym (get_or-map f (map t ps) i (t d))
      ∙ ap (λ xs. get_or xs i (f (t d))) (mm.targets a)
      ∙ get_or_default (map t' ps') i (f (t d)) (t' d') k
      ∙ get_or-map t' ps' i d'

  port_number : (u : ℕ) → length (ports H net' u) ≡ length (ports G net u)
  port_number u =
      let a = home G u in
      let t = target G a.label in
      let t' = target H (f a).label in
      ap (λ v. length (ports H net' v)) (sym (mm.nodes a))
      ∙ sym (length-map (ports H net' (f a).node) t')
      ∙ ap length (sym (mm.targets a))
      ∙ length-map (map t (ports G net u)) f
      ∙ length-map (ports G net u) t

  port_linked : (a : Junction M) (d : Port M) (i : ℕ) → i < length (ports G net a.node) → Link G net a (port_target G net a d i)
  port_linked a d i h = port_link G net a.node a.label (get_or (ports G net a.node) i d) (in_at (ports G net a.node) i d h)

  pub mesh_cover_laws : (r : ℕ) → Apart (Link G net) f (2 * r + 1) → MeshCoverLaws G net H net' f r
  mesh_cover_laws r apart = record {
    distances = λ n a b h d. laws.distances n a b (omega arith) d;
    distances_lift = laws.distances_lift;
    distances_back = λ n a b h w d. (let k = w.near in laws.distances_back w.far n a b (omega arith) w.distance.walk d);
    shell_numbers = λ n a k h. laws.shell_numbers n a k (omega arith);
    port_numbers = port_number;
    port_targets = port_kept;
    ring_numbers = λ L a d d' i j n h hi hj.
        subst₂ (λ x y. RingsOf (Link G net) L a (port_target G net a d i) (port_target G net a d j) n ↔ RingsOf (Link H net') L (f a) x y n) (port_kept a d d' i hi) (port_kept a d d' j hj)
        (rings.ring_numbers L a (port_target G net a d i) (port_target G net a d j) n h (port_linked a d i hi) (port_linked a d j hj));
  }
    where
      cv : Covers (Link G net) (Link H net') f (2 * r + 1)
      cv = mesh_covers (2 * r + 1) apart

      laws : CoverLaws (Link G net) (Link H net') f (2 * r + 1)
      laws = cover_laws (link_back G net) cv

      rings : RingCoverLaws (Link G net) (Link H net') f (2 * r + 1)
      rings = ring_cover_laws (link_back G net) (link_back H net') cv

-- The links of a junction are the ports of its node.
use Rattle.std.proofs.Common.{◌≡◌, ℕ, sym, refl, ap, ◌∙◌, subst, inl, inr}
use Rattle.label.specs.Group.{Group}
use Rattle.mesh.specs.Listed.{In}
use Rattle.mesh.specs.Net.{Net}
use Rattle.mesh.specs.Junction.{Junction, spot}
use Rattle.mesh.specs.Link.{Link, forward, backward}
use Rattle.mesh.specs.Ports.{Port, ahead, behind, ports}
use Rattle.mesh.specs.Target.{target, neighbours}
use Rattle.mesh.specs.Ported.{Ported}
use Rattle.mesh.proofs.Groups.{there_and_back, back_and_there, off_left}
use Rattle.mesh.proofs.Lists.{in_map, from_map}
use Rattle.mesh.proofs.Ported.{port_line, line_port, has_back}

module _ {M : Type 0} (G : Group M) where
  -- a port leads where a link leads, and back
  pub link_port : (net : Net M) (u : ℕ) (h : M) (b : Junction M) → Link G net (spot u h) b → (p : Port M) × In p (ports G net u) × (b ≡ target G h p)
  link_port net u h b (forward l i w) = (
    ahead l,
    line_port G u net.lines (ahead l) l i (inl (sym (ap (λ (a : Junction M). a.node) w.starts), refl)),
    w.ends ∙ ap (λ (x : M). spot l.head (G.mul x l.label)) (sym (ap (λ (a : Junction M). a.label) w.starts)),
  )
  link_port net u h b (backward l i w) = (
    behind G l,
    line_port G u net.lines (behind G l) l i (inr (sym (ap (λ (a : Junction M). a.node) w.ends), refl)),
    w.starts ∙ ap (spot l.tail) (sym (there_and_back G w.by l.label) ∙ ap (λ (x : M). G.mul x (G.inv l.label)) (sym (ap (λ (a : Junction M). a.label) w.ends))),
  )

  pub port_link : (net : Net M) (u : ℕ) (h : M) (p : Port M) → In p (ports G net u) → Link G net (spot u h) (target G h p)
  port_link net u h p i =
      let r = port_line G u net.lines p i in
      let l = r.0 in
      elim r.2 [
        | inl g ↦ forward l r.1 (record {
          by = h;
          starts = ap (λ (v : ℕ). spot v h) (sym g.0);
          ends = ap (target G h) g.1;
        })
        | inr g ↦ backward l r.1 (record {
          by = G.mul h (G.inv l.label);
          starts = ap (target G h) g.1;
          ends = ap (λ (v : ℕ). spot v h) (sym g.0) ∙ ap (spot l.head) (sym (back_and_there G h l.label));
        })
      ]

  -- a junction is linked to its neighbours, and to nothing else
  pub leads : (net : Net M) (a b : Junction M) → In b (neighbours G net a) → Link G net a b
  leads net a b i =
      let r = from_map (target G a.label) b (ports G net a.node) i in
      subst (λ (c : Junction M). Link G net a c) (sym r.2) (port_link net a.node a.label r.0 r.1)

  pub led : (net : Net M) (a b : Junction M) → Link G net a b → In b (neighbours G net a)
  led net a b k =
      let r = link_port net a.node a.label b k in
      subst (λ (c : Junction M). In c (neighbours G net a)) (sym r.2) (in_map (target G a.label) r.0 (ports G net a.node) r.1)

  -- ports with one target are one port
  pub same_target : (h : M) (p q : Port M) → target G h p ≡ target G h q → p ≡ q
  same_target h p q e =
      λ i. record { to = (e i).node; label = off_left G h p.label q.label (ap (λ (b : Junction M). b.label) e) i }

  pub ported : (net : Net M) → Ported G net
  ported net = record {
    links = λ u h b. (
      link_port net u h b,
      λ r. subst (λ (c : Junction M). Link G net (spot u h) c) (sym r.2) (port_link net u h r.0 r.1),
    );
    back = λ u p i. has_back G u net.lines p i;
    returns = λ u h p. ap (spot u) (there_and_back G h p.label);
  }

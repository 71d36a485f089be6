-- What the rules of drawing make true of the ports of a drawn net.
use Rattle.std.proofs.Common.{◌≡◌, ℕ, ◌<◌, ◌≤◌, List, [], ◌∷◌, ◌++◌, length, get_or, sym, ap, ◌∙◌, subst, inl, inr, arith}
use native.Mathlib.Decide.{dec_le, ℕ_discrete}
use Rattle.label.specs.Group.{Group}
use Rattle.mesh.specs.Listed.{In}
use Rattle.mesh.specs.Exactly.{Distinct}
use Rattle.mesh.specs.Net.{Line, Net}
use Rattle.mesh.specs.Junction.{Junction}
use Rattle.mesh.specs.Link.{Link}
use Rattle.mesh.specs.Ports.{Port, ahead, behind, line_ports, ports_of, ports}
use Rattle.mesh.specs.Target.{target, neighbours, port_back}
use Rattle.mesh.specs.Drawn.{Allowed, Drawing, blank, draw, Drawn}
use Rattle.mesh.specs.DrawnLaws.{DrawnLaws}
use Rattle.label.specs.Groups.{inv_inv}
use Rattle.mesh.proofs.Groups.{inv_one, stays_one}
use Rattle.mesh.proofs.Lists.{in_push, distinct_join, distinct_map, one_place}
use Rattle.mesh.proofs.Ported.{Gives, in_given, ports_push, ports_count_push, gives_none, given_distinct, port_line, has_back}
use Rattle.mesh.proofs.Targets.{link_port, same_target, leads, led}

module _ {M : Type 0} (G : Group M) where
  -- an allowed line gives no port that a node has already
  new_port : (n u : ℕ) (ls : List (Line M)) (l : Line M) → Allowed G n ls l → (p : Port M) → In p (ports_of G u ls) → Gives G u l p → ⊥
  new_port n u ls l a p i (inl g) =
      a.fresh (subst (λ (v : ℕ). In (ahead l) (ports_of G v ls)) (sym g.0) (subst (λ (q : Port M). In q (ports_of G u ls)) g.1 i))
  new_port n u ls l a p i (inr g) =
      let e : ◌≡◌ {A = Port M} (port_back G u (behind G l)) (ahead l) = λ j. record { to = sym g.0 j; label = inv_inv G l.label j } in
      a.fresh (subst (λ (q : Port M). In q (ports_of G l.tail ls)) e (has_back G u ls (behind G l) (subst (λ (q : Port M). In q (ports_of G u ls)) g.1 i)))

  pub distinct_ports : (n u : ℕ) {ls : List (Line M)} → Drawing G n ls → Distinct (ports_of G u ls)
  distinct_ports n u blank = tt
  distinct_ports n u (draw {before = ls} {l = l} d a) =
      subst (λ (ps : List (Port M)). Distinct ps) (sym (ports_push G u ls l))
      (distinct_join (ports_of G u ls) (line_ports G u l) (distinct_ports n u d) (given_distinct G u l (λ e f. a.turns (e, f)))
      (λ p i j. new_port n u ls l a p i (in_given G u l p j)))

  -- each line of a drawing was allowed
  pub was_allowed : (n : ℕ) {ls : List (Line M)} → Drawing G n ls → (k : Line M) → In k ls → (before : List (Line M)) × Allowed G n before k
  was_allowed n blank k i = absurd i
  was_allowed n (draw {before = ls} {l = l} d a) k i =
      elim (in_push k ls l i) [ inl j ↦ was_allowed n d k j | inr e ↦ (ls, subst (λ (x : Line M). Allowed G n ls x) (sym e) a) ]

  pub no_still_port : (n u : ℕ) {ls : List (Line M)} → Drawing G n ls → (p : Port M) → In p (ports_of G u ls) → p.to ≡ u → p.label ≡ G.one → ⊥
  no_still_port n u {ls} d p i e f =
      let r = port_line G u ls p i in
      let a = (was_allowed n d r.0 r.1).1 in
      elim r.2 [
        | inl g ↦ a.moves (g.0 ∙ sym e ∙ ap (λ (q : Port M). q.to) g.1, sym (ap (λ (q : Port M). q.label) g.1) ∙ f)
        | inr g ↦ a.moves (sym (ap (λ (q : Port M). q.to) g.1) ∙ e ∙ sym g.0, inv_one G r.0.label (sym (ap (λ (q : Port M). q.label) g.1) ∙ f))
      ]

  pub no_self_link : (net : Net M) → Drawn G net → (a : Junction M) → Link G net a a → ⊥
  no_self_link net d a k =
      let r = link_port G net a.node a.label a k in
      no_still_port net.nodes a.node d r.0 r.1 (sym (ap (λ (b : Junction M). b.node) r.2))
      (stays_one G a.label r.0.label (ap (λ (b : Junction M). b.label) r.2))

  -- the ends of an allowed line are nodes
  ends_nodes : (n : ℕ) (ls : List (Line M)) (l : Line M) → Allowed G n ls l → (l.tail < n) × (l.head < n)
  ends_nodes n ls l a = (
    elim (dec_le n l.tail) [ yes h ↦ absurd (a.on_nodes (inl h)) | no f ↦ omega arith ],
    elim (dec_le n l.head) [ yes h ↦ absurd (a.on_nodes (inr h)) | no f ↦ omega arith ],
  )

  pub port_nodes : (n u : ℕ) {ls : List (Line M)} → Drawing G n ls → (p : Port M) → In p (ports_of G u ls) → (u < n) × (p.to < n)
  port_nodes n u {ls} d p i =
      let r = port_line G u ls p i in
      let s = was_allowed n d r.0 r.1 in
      let a = ends_nodes n s.0 r.0 s.1 in
      elim r.2 [
        | inl g ↦ (subst (λ (v : ℕ). v < n) g.0 a.0, subst (λ (v : ℕ). v < n) (sym (ap (λ (q : Port M). q.to) g.1)) a.1)
        | inr g ↦ (subst (λ (v : ℕ). v < n) g.0 a.1, subst (λ (v : ℕ). v < n) (sym (ap (λ (q : Port M). q.to) g.1)) a.0)
      ]

  -- what is not more than 12 is at most 12
  no_more : (n : ℕ) → (12 < n → ⊥) → n ≤ 12
  no_more n f = elim (dec_le n 12) [ yes h ↦ h | no g ↦ absurd (f (omega arith)) ]

  -- the rule looks at the tail and the head: no other node gains a port
  pub has_room : (n u : ℕ) {ls : List (Line M)} → Drawing G n ls → length (ports_of G u ls) ≤ 12
  has_room n u blank = omega arith
  has_room n u (draw {before = ls} {l = l} d a) =
      elim (ℕ_discrete l.tail u) [
        | yes e ↦ subst (λ (v : ℕ). length (ports_of G v (ls ++ (l ∷ []))) ≤ 12) e
            (no_more (length (ports_of G l.tail (ls ++ (l ∷ [])))) (λ h. a.room (inl h)))
        | no t ↦ elim (ℕ_discrete l.head u) [
          | yes e ↦ subst (λ (v : ℕ). length (ports_of G v (ls ++ (l ∷ []))) ≤ 12) e
              (no_more (length (ports_of G l.head (ls ++ (l ∷ [])))) (λ h. a.room (inr h)))
          | no h ↦
              let before = has_room n u d in
              let sum = ports_count_push G u ls l in
              let none : length (line_ports G u l) ≡ 0 = ap length (gives_none G u l t h) in
              omega arith
        ]
      ]

  pub drawn_laws : (net : Net M) → Drawn G net → DrawnLaws G net
  drawn_laws net d = record {
    distinct = λ u. distinct_ports net.nodes u d;
    targets = apart;
    one_place = λ u i j e p q r. one_place (ports G net u) (distinct_ports net.nodes u d) i j e p q r;
    one_target = λ u h i j e p q r.
        one_place (ports G net u) (distinct_ports net.nodes u d) i j e p q
        (same_target G h (get_or (ports G net u) i e) (get_or (ports G net u) j e) r);
    linked = λ a. record { distinct = apart a; only = leads G net a; all = led G net a };
    no_stay = λ u p i e f. no_still_port net.nodes u d p i e f;
    no_self = no_self_link net d;
    node_here = λ u p i. (port_nodes net.nodes u d p i).0;
    node_there = λ u p i. (port_nodes net.nodes u d p i).1;
    room = λ u. has_room net.nodes u d;
  }
    where
      apart : (a : Junction M) → Distinct (neighbours G net a)
      apart a = distinct_map (target G a.label) (same_target G a.label) (ports G net a.node) (distinct_ports net.nodes a.node d)

-- A found list that grows by one shell, node by node.
use Rattle.std.proofs.Common.{◌≡◌, ℕ, zero, suc, ◌<◌, ◌≤◌, ◌⊎◌, List, [], ◌∷◌, ◌++◌, map, length, take, sym, refl, ap, ◌∙◌, subst, inl, inr, arith, take-suc}
use mathlib.Core.List.{map-map}
use native.Mathlib.Decide.{dec_le, dec_lt}
use Rattle.std.specs.List.{range_with_len, between}
use Rattle.std.proofs.lemmas.List.{take_all, take-take}
use Rattle.std.proofs.lemmas.List.FromFn.{length-map-range_with_len, get_or-map-range_with_len}
use Rattle.label.specs.Group.{Group}
use Rattle.mesh.specs.Listed.{In}
use Rattle.mesh.specs.Exactly.{Distinct, Exactly}
use Rattle.mesh.specs.Net.{Net}
use Rattle.mesh.specs.Junction.{Junction, home}
use Rattle.mesh.specs.Link.{Link}
use Rattle.mesh.specs.Shell.{Shell, Ball}
use Rattle.mesh.specs.Target.{neighbours}
use Rattle.mesh.proofs.Lists.{in_left, in_either, in_map, from_map, distinct_map}
use Rattle.mesh.proofs.Targets.{leads, led}
use Rattle.mesh.proofs.Shells.{shell_laws}
use Rattle.growth.specs.Entry.{Sight, Entry, about, at_distance, sights, junctions}
use Rattle.growth.specs.Noted.{Noted}
use Rattle.growth.specs.Surveyed.{Told, ShellPart, Surveyed, Growing, targets}
use Rattle.growth.proofs.Parts.{from_joined, in_joined, distinct_right, distinct_apart, take_between, between_only, between_front, front_length, in_counting, distinct_counting}
use Rattle.growth.proofs.Notes.{sights_append, noted_kept, noted_longer}
use Rattle.growth.proofs.Questions.{surveyed_found, surveyed_held}

-- numbers that do not fall from one to the next do not fall
rising : (f : ℕ → ℕ) (c : ℕ) → ((v : ℕ) → v < c → f v ≤ f (suc v)) → (a b : ℕ) → a ≤ b → b ≤ c → f a ≤ f b
rising f c up a zero h k = let e : a ≡ 0 = omega arith in let p = ap f e in omega arith
rising f c up a (suc b) h k =
    elim (dec_le a b) [
      | yes l ↦ let p = rising f c up a b l (omega arith) in let q = up b (omega arith) in omega arith
      | no l ↦ let e : a ≡ suc b = omega arith in let p = ap f e in omega arith
    ]

module _ {M : Type 0} where
  -- entries about one node with distinct sights have distinct junctions
  distinct_junctions : (v : ℕ) (E : List (Entry M)) → ((e : Entry M) → In e E → e.sight.centre ≡ v) → Distinct (sights E) → Distinct (junctions E)
  distinct_junctions v [] c d = tt
  distinct_junctions v (e ∷ E) c d = (
    λ i. let f = from_map (λ x. x.sight.junction) e.sight.junction E i in
        let same : f.0.sight ≡ e.sight = λ t. about ((c f.0 (inr f.1) ∙ sym (c e (inl refl))) t) (sym f.2 t) in
        d.0 (subst (λ (s : Sight M). In s (sights E)) same (in_map (λ x. x.sight) f.0 E f.1)),
    distinct_junctions v E (λ x i. c x (inr i)) d.1,
  )

  noted_same : {d : ℕ} {E E' F F' : List (Entry M)} {T : List (Sight M)} → E ≡ E' → F ≡ F' → Noted d E T F → Noted d E' T F'
  noted_same {d} {E} {E'} {F} {F'} {T} p q n = subst (λ (l : List (Entry M)). Noted d E' T l) q (subst (λ (l : List (Entry M)). Noted d l T F) p n)

module _ {M : Type 0} (G : Group M) (net : Net M) where
  -- what is asked for about v are the junctions that are linked to the given ones
  pub from_targets : (v : ℕ) (bs : List (Junction M)) (t : Sight M) → In t (targets G net v bs) → (a : Junction M) × In a bs × Link G net a t.junction × (t.centre ≡ v)
  from_targets v bs t i =
      let f = from_joined (λ b. map (about v) (neighbours G net b)) t bs i in
      let n = from_map (about v) t (neighbours G net f.0) f.2 in
      (f.0, f.1, leads G net f.0 t.junction (subst (λ (s : Sight M). In s.junction (neighbours G net f.0)) (sym n.2) n.1), ap (λ (s : Sight M). s.centre) n.2)

  pub in_targets : (v : ℕ) (bs : List (Junction M)) (a b : Junction M) → In a bs → Link G net a b → In (about v b) (targets G net v bs)
  in_targets v bs a b i l =
      in_joined (λ c. map (about v) (neighbours G net c)) (about v b) a bs i (in_map (about v) b (neighbours G net a) (led G net a b l))

  -- a part is a shell where what stands in it is
  part_from : (v k i j : ℕ) (E part : List (Entry M)) → i ≤ j → j ≤ length E → between i j E ≡ part → ((e : Entry M) → In e part → e.sight.centre ≡ v) → ((e : Entry M) → In e part → e.distance ≡ k) → Exactly (Shell G net v k) (junctions part) → ShellPart G net v k i j E
  part_from v k i j E part ordered inside same c d x = record {
    ordered = ordered;
    inside = inside;
    centres = λ e m. c e (subst (λ (l : List (Entry M)). In e l) same m);
    distances = λ e m. d e (subst (λ (l : List (Entry M)). In e l) same m);
    shell = subst (λ (l : List (Entry M)). Exactly (Shell G net v k) (junctions l)) (sym same) x;
  }

  part_marks : (v k : ℕ) (E : List (Entry M)) {i i' j j' : ℕ} → i' ≡ i → j' ≡ j → ShellPart G net v k i j E → ShellPart G net v k i' j' E
  part_marks v k E {i} {i'} {j} {j'} p q x = subst (λ (n : ℕ). ShellPart G net v k i' n E) (sym q) (subst (λ (n : ℕ). ShellPart G net v k n j E) (sym p) x)

  -- a part of the front of a list is a part of the list
  part_kept : (v k i j : ℕ) (E F : List (Entry M)) → take (length E) F ≡ E → ShellPart G net v k i j E → ShellPart G net v k i j F
  part_kept v k i j E F kept p =
      let long = front_length E F kept in
      let in_E = p.inside in
      part_from v k i j F (between i j E) p.ordered (omega arith) (between_front i j (length E) F E in_E kept) p.centres p.distances p.shell

module _ {M : Type 0} (G : Group M) (net : Net M) (r : ℕ) (mark : ℕ → ℕ → ℕ) (E : List (Entry M)) where
  -- what is asked for about a node
  abbrev pub asked : ℕ → List (Sight M)
  asked v = targets G net v (junctions (between (mark r v) (mark r (suc v)) E))

  pub growing_none : (next : ℕ → ℕ) → next 0 ≡ length E → Growing G net r mark E 0 next E
  growing_none next e = record {
    first = e;
    last = e;
    kept = take_all (length E) E (omega arith);
    ordered = λ v h. omega arith;
    noted = λ v h. absurd (let z : ⊥ = omega arith in z);
  }

  module _ (c : ℕ) (next : ℕ → ℕ) (F : List (Entry M)) (g : Growing G net r mark E c next F) where
    -- each mark is a place of the list
    pub growing_inside : (v : ℕ) → v ≤ c → next v ≤ length F
    growing_inside v h = let a = rising next c g.ordered v c h (omega arith) in let b = g.last in omega arith

    -- what is noted about a node stands between its marks
    pub growing_new : (v : ℕ) (h : v < c) → between (next v) (next (suc v)) F ≡ (g.noted v h).new
    growing_new v h = between_only (next v) (next (suc v)) F (g.noted v h).new (growing_inside v (omega arith)) (g.noted v h).longer

    growing_first : take (next 0) F ≡ E
    growing_first = ap (λ (n : ℕ). take n F) g.first ∙ g.kept

    -- what stands before a mark was there, or is noted about a node before
    pub growing_entries : (n : ℕ) → n ≤ c → (e : Entry M) → In e (take (next n) F) → In e E ⊎ ((v : ℕ) × (v < n) × In e (between (next v) (next (suc v)) F))
    growing_entries zero h e i = inl (subst (λ (l : List (Entry M)). In e l) growing_first i)
    growing_entries (suc n) h e i =
        elim (in_either e (take (next n) F) (between (next n) (next (suc n)) F) (subst (λ (l : List (Entry M)). In e l) (take_between (next n) (next (suc n)) F (g.ordered n (omega arith))) i)) [
          | inl j ↦ elim (growing_entries n (omega arith) e j) [ inl k ↦ inl k | inr k ↦ inr (k.0, (let m = k.1 in omega arith), k.2) ]
          | inr j ↦ inr (n, omega arith, j)
        ]

    -- an entry between the marks of a node was asked for about it
    pub growing_asked : (v : ℕ) → v < c → (e : Entry M) → In e (between (next v) (next (suc v)) F) → (e.distance ≡ suc r) × In e.sight (asked v)
    growing_asked v h e i =
        let n = g.noted v h in
        let j = subst (λ (l : List (Entry M)). In e l) (growing_new v h) i in
        (n.distances e j, n.from_asked e j)

    pub growing_distinct : Distinct (sights E) → (n : ℕ) → n ≤ c → Distinct (sights (take (next n) F))
    growing_distinct d zero h = subst (λ (l : List (Entry M)). Distinct (sights l)) (sym growing_first) d
    growing_distinct d (suc n) h = (g.noted n (omega arith)).distinct (growing_distinct d n (omega arith))

    pub growing_whole : take (next c) F ≡ F
    growing_whole = take_all (next c) F (let e = g.last in omega arith)

    -- what was there stands before each mark
    growing_before : (n : ℕ) → n ≤ c → (t : Sight M) → In t (sights E) → In t (sights (take (next n) F))
    growing_before n h t i =
        let up = rising next c g.ordered 0 n (omega arith) h in
        let part = between (next 0) (next n) F in
        let same : sights (take (next n) F) ≡ sights E ++ sights part =
        ap sights (take_between (next 0) (next n) F up) ∙ sights_append (take (next 0) F) part ∙ ap (λ (l : List (Entry M)). sights l ++ sights part) growing_first in
        subst (λ (l : List (Sight M)). In t l) (sym same) (in_left t (sights E) (sights part) i)

  pub growing_more : (c : ℕ) (next next' : ℕ → ℕ) (F H : List (Entry M)) → Growing G net r mark E c next F → Noted (suc r) F (targets G net c (junctions (between (mark r c) (mark r (suc c)) E))) H → ((v : ℕ) → v ≤ c → next' v ≡ next v) → next' (suc c) ≡ length H → Growing G net r mark E (suc c) next' H
  growing_more c next next' F H g n same last =
      let long = noted_longer n in
      record {
        first = same 0 (omega arith) ∙ g.first;
        last = last;
        kept = sym (take-take (length E) (length F) H (front_length E F g.kept)) ∙ ap (take (length E)) (noted_kept n) ∙ g.kept;
        ordered = λ v h. elim (dec_lt v c) [
          | yes l ↦ let a = same v (omega arith) in let b = same (suc v) (omega arith) in let k = g.ordered v l in omega arith
          | no l ↦
              let e : v ≡ c = omega arith in
              subst (λ (x : ℕ). next' x ≤ next' (suc x)) (sym e) (let a = same c (omega arith) in let b = g.last in omega arith)
        ];
        noted = λ v h. elim (dec_lt v c) [
          | yes l ↦ noted_same (sym (before v (omega arith))) (sym (before (suc v) (omega arith))) (g.noted v l)
          | no l ↦
              let e : v ≡ c = omega arith in
              subst (λ (x : ℕ). Noted (suc r) (take (next' x) H) (asked x) (take (next' (suc x)) H)) (sym e)
              (noted_same (sym (before c (omega arith) ∙ growing_whole c next F g)) (sym (take_all (next' (suc c)) H (omega arith))) n)
        ];
      }
    where
      before : (v : ℕ) → v ≤ c → take (next' v) H ≡ take (next v) F
      before v h =
          ap (λ (k : ℕ). take k H) (same v h) ∙ sym (take-take (next v) (length F) H (growing_inside c next F g v h)) ∙ ap (take (next v)) (noted_kept n)

  module _ (s : Surveyed G net r mark E) where
    -- what is asked for about a node is linked to its last shell
    pub asked_linked : (v : ℕ) → v < net.nodes → (t : Sight M) → In t (asked v) → (a : Junction M) × Shell G net v r a × Link G net a t.junction × (t.centre ≡ v)
    asked_linked v h t i =
        let part = junctions (between (mark r v) (mark r (suc v)) E) in
        let f = from_targets G net v part t i in
        (f.0, (s.parts v r h (omega arith)).shell.only f.0 f.1, f.2, f.3)

    module _ (c : ℕ) (next : ℕ → ℕ) (F : List (Entry M)) (g : Growing G net r mark E c next F) (few : c ≤ net.nodes) where
      -- what is noted about a node is its next shell
      pub next_shell : (v : ℕ) → v < c → ShellPart G net v (suc r) (next v) (next (suc v)) F
      next_shell v h = record {
        ordered = g.ordered v h;
        inside = growing_inside c next F g (suc v) (omega arith);
        centres = λ e i. (link v h e i).3;
        distances = λ e i. (growing_asked c next F g v h e i).0;
        shell = record {
          distinct = distinct_junctions v part (λ e i. (link v h e i).3) (distinct_right (sights before) (sights part) distinct);
          only = λ b i.
              let f = from_map (λ e. e.sight.junction) b part i in
              let l = link v h f.0 f.1 in
              subst (Shell G net v (suc r)) (sym f.2) (((shell_laws G net).grows v r f.0.sight.junction).1 ((l.0, l.1, l.2), λ w. away f.0 f.1 w));
          all = λ b d. let o = ((shell_laws G net).grows v r b).0 d in found b o.0.0 o.0.1 o.0.2 o.1;
        };
      }
        where
          part : List (Entry M)
          part = between (next v) (next (suc v)) F

          before : List (Entry M)
          before = take (next v) F

          link : (w : ℕ) → w < c → (e : Entry M) → In e (between (next w) (next (suc w)) F) → (a : Junction M) × Shell G net w r a × Link G net a e.sight.junction × (e.sight.centre ≡ w)
          link w k e i = asked_linked w (omega arith) e.sight (growing_asked c next F g w k e i).1

          split : sights (take (next (suc v)) F) ≡ sights before ++ sights part
          split = ap sights (take_between (next v) (next (suc v)) F (g.ordered v h)) ∙ sights_append before part

          distinct : Distinct (sights before ++ sights part)
          distinct = subst (λ (l : List (Sight M)). Distinct l) split (growing_distinct c next F g s.distinct (suc v) (omega arith))

          -- the ball is found before, so nothing new is in it
          away : (e : Entry M) → In e part → Ball G net v r e.sight.junction → ⊥
          away e i w =
              let same : about v e.sight.junction ≡ e.sight = ap (λ (x : ℕ). about x e.sight.junction) (sym (link v h e i).3) in
              let held = surveyed_held s v e.sight.junction (omega arith) w in
              distinct_apart e.sight (sights before) (sights part) distinct
              (growing_before c next F g v (omega arith) e.sight (subst (λ (t : Sight M). In t (sights E)) same held)) (in_map (λ x. x.sight) e part i)

          -- what was found before about v is in the ball
          within : (b : Junction M) → In (about v b) (sights before) → Ball G net v r b
          within b i =
              let f = from_map (λ e. e.sight) (about v b) before i in
              let e = f.0 in
              elim (growing_entries c next F g v (omega arith) e f.1) [
                | inl j ↦ let t = surveyed_found s e j v b (sym f.2) in record { far = e.distance; near = t.1; distance = t.0 }
                | inr j ↦
                    let k = j.1 in
                    let p = (link j.0 (omega arith) e j.2).3 in
                    let q = ap (λ (t : Sight M). t.centre) f.2 in
                    absurd (let z : ⊥ = omega arith in z)
              ]

          -- what is linked to the last shell and is not in the ball was noted
          found : (b a : Junction M) → Shell G net v r a → Link G net a b → (Ball G net v r b → ⊥) → In b (junctions part)
          found b a d l out =
              let last = junctions (between (mark r v) (mark r (suc v)) E) in
              let i = (g.noted v h).all (about v b) (in_targets G net v last a b ((s.parts v r (omega arith) (omega arith)).shell.all a d) l) in
              elim (in_either (about v b) (sights before) (sights part) (subst (λ (l : List (Sight M)). In (about v b) l) split i)) [
                | inl j ↦ absurd (out (within b j))
                | inr j ↦
                    let f = from_map (λ e. e.sight) (about v b) part j in
                    subst (λ (t : Sight M). In t.junction (junctions part)) (sym f.2) (in_map (λ e. e.sight.junction) f.0 part f.1)
              ]

    pub grown : (next : ℕ → ℕ) (F : List (Entry M)) → Growing G net r mark E net.nodes next F → (mark' : ℕ → ℕ → ℕ) → ((k v : ℕ) → k ≤ r → v ≤ net.nodes → mark' k v ≡ mark k v) → ((v : ℕ) → v ≤ net.nodes → mark' (suc r) v ≡ next v) → Surveyed G net (suc r) mark' F
    grown next F g mark' old new = record {
      distinct = subst (λ (l : List (Entry M)). Distinct (sights l)) whole (growing_distinct net.nodes next F g s.distinct net.nodes (omega arith));
      told = λ e i. elim (growing_entries net.nodes next F g net.nodes (omega arith) e (subst (λ (l : List (Entry M)). In e l) (sym whole) i)) [
        | inl j ↦ let t = s.told e j in record { node = t.node; near = let h = t.near in omega arith; shell = t.shell }
        | inr j ↦
            let p = next_shell net.nodes next F g (omega arith) j.0 j.1 in
            let part = between (next j.0) (next (suc j.0)) F in
            let c = p.centres e j.2 in
            let d = p.distances e j.2 in
            record {
              node = let h = j.1 in omega arith;
              near = omega arith;
              shell = subst (λ (v : ℕ). Shell G net v e.distance e.sight.junction) (sym c)
                  (subst (λ (k : ℕ). Shell G net j.0 k e.sight.junction) (sym d) (p.shell.only e.sight.junction (in_map (λ x. x.sight.junction) e part j.2)));
            }
      ];
      parts = λ v k h near. elim (dec_le k r) [
        | yes l ↦ part_marks G net v k F (old k v l (omega arith)) (old k (suc v) l (omega arith)) (part_kept G net v k (mark k v) (mark k (suc v)) E F g.kept (s.parts v k h l))
        | no l ↦
            let e : k ≡ suc r = omega arith in
            subst (λ (j : ℕ). ShellPart G net v j (mark' j v) (mark' j (suc v)) F) (sym e)
            (part_marks G net v (suc r) F (new v (omega arith)) (new (suc v) (omega arith)) (next_shell net.nodes next F g (omega arith) v h))
      ];
    }
      where
        whole : take (next net.nodes) F ≡ F
        whole = growing_whole net.nodes next F g

module _ {M : Type 0} (G : Group M) (net : Net M) (mark : ℕ → ℕ → ℕ) where
  -- the entry of the home of a node
  abbrev home_entry : ℕ → Entry M
  home_entry v = at_distance 0 (about v (home G v))

  -- the homes of the nodes are the balls of radius 0
  homes_surveyed : ((v : ℕ) → v ≤ net.nodes → mark 0 v ≡ v) → Surveyed G net 0 mark (map home_entry (range_with_len 0 net.nodes))
  homes_surveyed places = record {
    distinct = subst (λ (l : List (Sight M)). Distinct l) (sym (map-map (λ e. e.sight) home_entry (range_with_len 0 net.nodes)))
        (distinct_map (λ v. about v (home G v)) (λ x y e. ap (λ (t : Sight M). t.centre) e) (range_with_len 0 net.nodes) (distinct_counting 0 net.nodes));
    told = λ e i.
        let f = from_map home_entry e (range_with_len 0 net.nodes) i in
        subst (Told G net 0) (sym f.2) (record {
          node = let h = (in_counting f.0 0 net.nodes f.1).1 in omega arith;
          near = omega arith;
          shell = ((shell_laws G net).first f.0).only (home G f.0) (inl refl);
        });
    parts = λ v k h near.
        let e : k ≡ 0 = omega arith in
        subst (λ (j : ℕ). ShellPart G net v j (mark j v) (mark j (suc v)) E) (sym e)
        (part_marks G net v 0 E (places v (omega arith)) (places (suc v) (omega arith)) (at v h));
  }
    where
      E : List (Entry M)
      E = map home_entry (range_with_len 0 net.nodes)

      at : (v : ℕ) → v < net.nodes → ShellPart G net v 0 v (suc v) E
      at v h =
          let long = length-map-range_with_len home_entry 0 net.nodes in
          let more : take (suc v) E ≡ take v E ++ (home_entry v ∷ []) =
          take-suc E v (home_entry v) (omega arith) ∙ ap (λ (e : Entry M). take v E ++ (e ∷ [])) (get_or-map-range_with_len home_entry 0 net.nodes v v (home_entry v) h (omega arith)) in
          part_from G net v 0 v (suc v) E (home_entry v ∷ []) (omega arith) (omega arith)
          (between_only v (suc v) E (home_entry v ∷ []) (omega arith) more)
          (λ e i. elim i [ inl p ↦ ap (λ (x : Entry M). x.sight.centre) p | inr f ↦ absurd f ])
          (λ e i. elim i [ inl p ↦ ap (λ (x : Entry M). x.distance) p | inr f ↦ absurd f ])
          ((shell_laws G net).first v)

  pub sealed : (E : List (Entry M)) → E ≡ map (λ v. at_distance 0 (about v (home G v))) (range_with_len 0 net.nodes) → ((v : ℕ) → v ≤ net.nodes → mark 0 v ≡ v) → Surveyed G net 0 mark E
  sealed E e places = subst (Surveyed G net 0 mark) (sym e) (homes_surveyed places)

-- How many junctions the balls of all nodes have.
use Rattle.std.proofs.Common.{◌≡◌, ℕ, zero, suc, ◌+◌, ◌<◌, ◌≤◌, List, [], ◌∷◌, map, length, get_or, take, sum, sym, refl, ap, ◌∙◌, subst, inl, inr, arith}
use native.Mathlib.Decide.{dec_lt}
use lib.ListN.{length-map}
use Rattle.std.specs.List.{range_with_len, between}
use Rattle.std.proofs.lemmas.List.{take_all}
use Rattle.std.proofs.lemmas.List.Sums.{sum_by_more}
use Rattle.std.proofs.lemmas.List.FromFn.{length-map-range_with_len, get_or-map-range_with_len}
use Rattle.label.specs.Group.{Group}
use Rattle.label.specs.Order.{Order}
use Rattle.mesh.specs.Listed.{In}
use Rattle.mesh.specs.Exactly.{Distinct, Exactly, Many}
use Rattle.mesh.specs.Net.{Net}
use Rattle.mesh.specs.Shell.{Ball}
use Rattle.mesh.proofs.Lists.{in_either, in_map, from_map, distinct_map}
use Rattle.mesh.proofs.Counts.{same_count, one_count, at_most, added}
use Rattle.mesh.proofs.Balls.{finite_laws}
use Rattle.growth.specs.Entry.{Sight, Entry, about, sights, junctions}
use Rattle.growth.specs.Noted.{Overfull}
use Rattle.growth.specs.Surveyed.{Balls, Surveyed, Growing, targets}
use Rattle.growth.proofs.Notes.{sights_append}
use Rattle.growth.proofs.Questions.{surveyed_held}
use Rattle.growth.proofs.Growths.{asked, asked_linked, growing_asked, growing_entries, growing_distinct, growing_whole}

module _ {M : Type 0} (G : Group M) (net : Net M) where
  -- the sight is of a node below n, and in the ball k of that node
  abbrev Tagged : ℕ → ℕ → Sight M → Type 0
  Tagged n k t = (t.centre < n) × Ball G net t.centre k t.junction

  -- the ball of a node, as it is found about it
  tagged_one : (k v m : ℕ) → Many (Ball G net v k) m → Many (λ (t : Sight M). (t.centre ≡ v) × Ball G net t.centre k t.junction) m
  tagged_one k v m x = record {
    which = map (about v) x.which;
    exactly = record {
      distinct = distinct_map (about v) (λ a b e. ap (λ (t : Sight M). t.junction) e) x.which x.exactly.distinct;
      only = λ t i.
          let f = from_map (about v) t x.which i in
          subst (λ (s : Sight M). (s.centre ≡ v) × Ball G net s.centre k s.junction) (sym f.2) (refl, x.exactly.only f.0 f.1);
      all = λ t w.
          let same : about v t.junction ≡ t = ap (λ (u : ℕ). about u t.junction) (sym w.0) in
          subst (λ (s : Sight M). In s (map (about v) x.which)) same
          (in_map (about v) t.junction x.which (x.exactly.all t.junction (subst (λ (u : ℕ). Ball G net u k t.junction) w.0 w.1)));
    };
    count = length-map x.which (about v) ∙ x.count;
  }

  module _ (k t : ℕ) (b : Balls G net k t) where
    tagged_first : (n : ℕ) → n ≤ net.nodes → Many (Tagged n k) (sum (take n b.numbers))
    tagged_first zero h = record {
      which = [];
      exactly = record { distinct = tt; only = λ s i. absurd i; all = λ s w. let z = w.0 in absurd (let y : ⊥ = omega arith in y) };
      count = refl;
    }
    tagged_first (suc n) h =
        let long = b.one_each in
        let more : sum (take (suc n) b.numbers) ≡ sum (take n b.numbers) + get_or b.numbers n 0 =
        (let e : suc n ≡ n + 1 = omega arith in ap (λ (m : ℕ). sum (take m b.numbers)) e) ∙ sum_by_more (λ x. x) b.numbers n 0 (omega arith) in
        subst (Many (Tagged (suc n) k)) (sym more)
        (added (Tagged n k) (λ (s : Sight M). (s.centre ≡ n) × Ball G net s.centre k s.junction) (Tagged (suc n) k)
        (λ s p q. let l = p.0 in let e = q.0 in omega arith)
        (λ s x. elim x [ inl p ↦ ((let l = p.0 in omega arith), p.1) | inr q ↦ ((let e = q.0 in omega arith), q.1) ])
        (λ s p. elim (dec_lt s.centre n) [ yes l ↦ inl (l, p.1) | no l ↦ inr ((let g = p.0 in omega arith), p.1) ])
        (sum (take n b.numbers)) (get_or b.numbers n 0) (tagged_first n (omega arith)) (tagged_one k n (get_or b.numbers n 0) (b.each n (omega arith))))

    -- the sights of all balls are as many as the balls have junctions
    tagged_all : Many (Tagged net.nodes k) t
    tagged_all =
        let long = b.one_each in
        subst (Many (Tagged net.nodes k)) (ap sum (take_all net.nodes b.numbers (omega arith)) ∙ b.adds) (tagged_first net.nodes (omega arith))

  pub balls_one : (k t u : ℕ) → Balls G net k t → Balls G net k u → t ≡ u
  balls_one k t u b c = one_count (Tagged net.nodes k) t u (tagged_all k t b) (tagged_all k u c)

  module _ (r : ℕ) (mark : ℕ → ℕ → ℕ) (E : List (Entry M)) where
    -- the sights of a surveyed list are those of the balls
    surveyed_tagged : Surveyed G net r mark E → Exactly (Tagged net.nodes r) (sights E)
    surveyed_tagged s = record {
      distinct = s.distinct;
      only = λ t i.
          let f = from_map (λ e. e.sight) t E i in
          let d = s.told f.0 f.1 in
          subst (Tagged net.nodes r) (sym f.2) (d.node, record { far = f.0.distance; near = d.near; distance = d.shell });
      all = λ t w. surveyed_held s t.centre t.junction w.0 w.1;
    }

    pub surveyed_total : Surveyed G net r mark E → (t : ℕ) → Balls G net r t → length E ≡ t
    surveyed_total s t b =
        let m = tagged_all r t b in
        sym (length-map E (λ e. e.sight)) ∙ same_count (Tagged net.nodes r) (sights E) m.which (surveyed_tagged s) m.exactly ∙ m.count

module _ {M : Type 0} (O : Order M) (G : Group M) (net : Net M) where
  -- each ball is finite, so the balls of all nodes have a number
  pub balls_found : (k : ℕ) → (t : ℕ) × Balls G net k t
  balls_found k =
      let size : ℕ → ℕ = λ v. length ((finite_laws G O net).balls v k).0 in
      let numbers = map size (range_with_len 0 net.nodes) in (
        sum numbers,
        record {
          numbers = numbers;
          one_each = length-map-range_with_len size 0 net.nodes;
          each = λ v h.
              let ball = (finite_laws G O net).balls v k in
              record { which = ball.0; exactly = ball.1; count = sym (get_or-map-range_with_len size 0 net.nodes v v 0 h (omega arith)) };
          adds = refl;
        },
      )

  module _ (r : ℕ) (mark : ℕ → ℕ → ℕ) (E : List (Entry M)) (s : Surveyed G net r mark E) where
    -- what is asked for about a node is in its next ball
    asked_tagged : (v : ℕ) → v < net.nodes → (t : Sight M) → In t (asked G net r mark E v) → Tagged G net net.nodes (suc r) t
    asked_tagged v h t i =
        let a = asked_linked G net r mark E s v h t i in
        let b = (finite_laws G O net).linked v r a.0 t.junction a.1 a.2 in
        let e = a.3 in
        (omega arith, subst (λ (u : ℕ). Ball G net u (suc r) t.junction) (sym e) (record { far = b.0; near = b.2; distance = b.3 }))

    module _ (c : ℕ) (next : ℕ → ℕ) (F : List (Entry M)) (g : Growing G net r mark E c next F) where
      -- what has been found while the list grows is in the next balls
      growing_tagged : c ≤ net.nodes → (t : Sight M) → In t (sights F) → Tagged G net net.nodes (suc r) t
      growing_tagged few t i =
          let f = from_map (λ e. e.sight) t F i in
          let e = f.0 in
          let whole = growing_whole G net r mark E c next F g in
          subst (Tagged G net net.nodes (suc r)) (sym f.2) (
          elim (growing_entries G net r mark E c next F g c (omega arith) e (subst (λ (l : List (Entry M)). In e l) (sym whole) f.1)) [
            | inl j ↦ let d = s.told e j in (d.node, record { far = e.distance; near = let n = d.near in omega arith; distance = d.shell })
            | inr j ↦ let h = j.1 in asked_tagged j.0 (omega arith) e.sight (growing_asked G net r mark E c next F g j.0 h e j.2).1
          ]
          )

      -- the sights that are held, and the next, are of the next balls, each once
      pub overfull_total : c < net.nodes → (room : ℕ) → Overfull (suc r) room F (targets G net c (junctions (between (mark r c) (mark r (suc c)) E))) → (t : ℕ) → Balls G net (suc r) t → room < t
      overfull_total h room o t b =
          let whole = growing_whole G net r mark E c next F g in
          let before = subst (λ (l : List (Entry M)). Distinct (sights l)) whole (growing_distinct G net r mark E c next F g s.distinct c (omega arith)) in
          let most = at_most (Tagged G net net.nodes (suc r)) t (o.next ∷ sights o.held) (tagged_all G net (suc r) t b) (o.next_new, o.noted.distinct before) tagged in
          let long = length-map o.held (λ e. e.sight) in
          let full = o.full in
          omega arith
        where
          tagged : (z : Sight M) → In z (o.next ∷ sights o.held) → Tagged G net net.nodes (suc r) z
          tagged z (inl e) = subst (Tagged G net net.nodes (suc r)) (sym e) (asked_tagged c h o.next o.next_asked)
          tagged z (inr i) =
              elim (in_either z (sights F) (sights o.noted.new) (subst (λ (l : List (Sight M)). In z l) (ap sights o.noted.longer ∙ sights_append F o.noted.new) i)) [
                | inl j ↦ growing_tagged (omega arith) z j
                | inr j ↦
                    let f = from_map (λ e. e.sight) z o.noted.new j in
                    asked_tagged c h z (o.before_asked z (subst (λ (w : Sight M). In w o.before) (sym f.2) (o.noted.from_asked f.0 f.1)))
              ]

-- As many rings go through two links as through those to which a cover takes them. Assumes nothing.
use Rattle.std.proofs.Common.{◌≡◌, ℕ, ◌≤◌, List, map, length, sym, ap, ◌∙◌, subst, subst₂}
use lib.ListN.{length-map}
use Rattle.mesh.specs.Listed.{In}
use Rattle.mesh.specs.Exactly.{Distinct}
use Rattle.mesh.specs.WalkLaws.{Symmetric}
use Rattle.mesh.proofs.Lists.{in_map, from_map}
use Rattle.rings.specs.SameRing.{SameRing}
use Rattle.rings.specs.Through.{Through}
use Rattle.rings.specs.RingsOf.{RingsOf}
use Rattle.cover.specs.Covers.{Covers}
use Rattle.cover.specs.RingCoverLaws.{RingCoverLaws}
use Rattle.cover.proofs.Matched.{distinct_on, distinct_back, told_apart, lift_members}
use Rattle.cover.proofs.Rings.{ring_kept, through_kept, through_lifts, standard_kept, standard_lifts, same_ring}

same_as : {J : Type 0} {c d : List J} → c ≡ d → SameRing c d
same_as {J} {c} {d} e = subst (λ z. SameRing c z) e (λ a b. (λ u. u, λ u. u))

module _ {J J' : Type 0} {Link : J → J → Type 0} {Link' : J' → J' → Type 0} {f : J → J'} {R : ℕ} (back : Symmetric Link) (back' : Symmetric Link') (cv : Covers Link Link' f R) where
  module _ (L : ℕ) (o x y : J) (n : ℕ) (h : L ≤ R) (lx : Link o x) (ly : Link o y) where
    rings_down : RingsOf Link L o x y n → RingsOf Link' L (f o) (f x) (f y) n
    rings_down r = record {
      rings = map (map f) r.rings;
      count = length-map r.rings (map f) ∙ r.count;
      distinct = distinct_on (map f) r.rings (λ c d i j e. r.once c d i j ((same_ring back back' cv L o x y c d h (r.through c i) (r.through d j)).1 (same_as e))) r.distinct;
      through = λ c' i.
          let s = from_map (map f) c' r.rings i in
          subst (λ c. Through Link' L (f o) (f x) (f y) c) (sym s.2) (through_kept back back' cv L o x y s.0 h (r.through s.0 s.1));
      once = λ c' d' i j k.
          let s = from_map (map f) c' r.rings i in
          let t = from_map (map f) d' r.rings j in
          let e = r.once s.0 t.0 s.1 t.1 ((same_ring back back' cv L o x y s.0 t.0 h (r.through s.0 s.1) (r.through t.0 t.1)).1 (subst₂ (λ c d. SameRing c d) s.2 t.2 k)) in
          s.2 ∙ ap (map f) e ∙ sym t.2;
      all = λ c' t.
          let u = through_lifts back back' cv L o x y c' h lx ly t in
          let w = r.all u.0 u.1 in
          let k = (same_ring back back' cv L o x y u.0 w.0 h u.1 (r.through w.0 w.1)).0 w.2 in
          (map f w.0, in_map (map f) w.0 r.rings w.1, subst (λ c. SameRing c (map f w.0)) u.2 k);
    }

    rings_up : RingsOf Link' L (f o) (f x) (f y) n → RingsOf Link L o x y n
    rings_up r = more (lift_members (λ c. Through Link L o x y c) (map f) r.rings (λ c' i. through_lifts back back' cv L o x y c' h lx ly (r.through c' i)))
      where
        more : ((cs : List (List J)) × ((c : List J) → In c cs → Through Link L o x y c) × (map (map f) cs ≡ r.rings)) → RingsOf Link L o x y n
        more (cs, each, m) =
            let d : Distinct (map (map f) cs) = subst (λ zs. Distinct zs) (sym m) r.distinct in
            let there : (c : List J) → In c cs → In (map f c) r.rings = λ c i. subst (λ zs. In (map f c) zs) m (in_map (map f) c cs i) in
            record {
              rings = cs;
              count = sym (length-map cs (map f)) ∙ ap length m ∙ r.count;
              distinct = distinct_back (map f) cs d;
              through = each;
              once = λ b c i j s. told_apart (map f) cs d b c i j (r.once (map f b) (map f c) (there b i) (there c j) ((same_ring back back' cv L o x y b c h (each b i) (each c j)).0 s));
              all = λ c t.
                  let w = r.all (map f c) (through_kept back back' cv L o x y c h t) in
                  let u = from_map (map f) w.0 cs (subst (λ zs. In w.0 zs) (sym m) w.1) in
                  (u.0, u.1, (same_ring back back' cv L o x y c u.0 h t (each u.0 u.1)).1 (subst (λ z. SameRing (map f c) z) u.2 w.2));
            }

  pub ring_cover_laws : RingCoverLaws Link Link' f R
  ring_cover_laws = record {
    rings = ring_kept back back' cv;
    through = through_kept back back' cv;
    through_lifts = through_lifts back back' cv;
    standard = standard_kept back back' cv;
    standard_lifts = standard_lifts back back' cv;
    same = same_ring back back' cv;
    ring_numbers = λ L o x y n h lx ly. (rings_down L o x y n h lx ly, rings_up L o x y n h lx ly);
  }

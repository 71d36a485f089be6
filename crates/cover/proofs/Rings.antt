-- The rings of a cover correspond. Assumes nothing.
use Rattle.std.proofs.Common.{◌≡◌, ℕ, zero, suc, ◌+◌, ◌-◌, ◌*◌, ◌/◌, ◌<◌, ◌≤◌, ◌↔◌, List, [], ◌∷◌, map, length, get_or, sym, refl, ap, ◌∙◌, subst, subst₂, inl, inr, arith}
use lib.ListN
use lib.ListN.{length-map}
use Rattle.std.proofs.lemmas.List.{get_or_default, get_or-map}
use Rattle.mesh.specs.Walk.{Walk, stay, step}
use Rattle.mesh.specs.Distance.{Distance}
use Rattle.mesh.specs.WalkLaws.{Symmetric}
use Rattle.mesh.proofs.Walks.{join}
use Rattle.rings.specs.Ahead.{Next}
use Rattle.rings.specs.Closed.{Closed}
use Rattle.rings.specs.Ring.{Ring}
use Rattle.rings.specs.Uses.{Uses}
use Rattle.rings.specs.SameRing.{SameRing}
use Rattle.rings.specs.Standard.{Standard}
use Rattle.rings.specs.Through.{Through}
use Rattle.rings.proofs.Rounds.{gap, walk_as, dist_as, ring_far, along}
use Rattle.rings.proofs.Gaps.{Beside, beside, used, ring_from}
use Rattle.rings.proofs.HalfWay.{HalvesAhead, ring_by_halves}
use Rattle.cover.specs.Covers.{Covers}
use Rattle.cover.proofs.Distances.{lifted, near_by, distances_kept, distances_back}

-- each element is linked to the next
abbrev Chained : {J : Type 0} → (J → J → Type 0) → List J → Type 0
Chained {J} Link c = (d : J) (i : ℕ) → suc i < length c → Link (get_or c i d) (get_or c (suc i) d)

small : (L i j : ℕ) → i < L → j < L → 2 * gap L i j ≤ L
small L i j h k = omega arith

half : (L : ℕ) → 2 * (L / 2) ≤ L
half L = omega arith

one_more : {J : Type 0} (Link : J → J → Type 0) (a b : J) (r : List J) → Link a b → Chained Link (b ∷ r) → Chained Link (a ∷ b ∷ r)
one_more Link a b r l ch d zero h = l
one_more Link a b r l ch d (suc i) h = ch d i (omega arith)

chain_walk : {J : Type 0} (Link : J → J → Type 0) (c : List J) → Chained Link c → (d : J) (i : ℕ) → i < length c → Walk Link i (get_or c 0 d) (get_or c i d)
chain_walk Link c ch d zero h = stay
chain_walk Link c ch d (suc i) h = walk_as Link (omega arith) refl refl (join Link (chain_walk Link c ch d i (omega arith)) (step (ch d i h) stay))

module _ {J J' : Type 0} {Link : J → J → Type 0} {Link' : J' → J' → Type 0} {f : J → J'} {R : ℕ} (back : Symmetric Link) (back' : Symmetric Link') (cv : Covers Link Link' f R) where
  -- rings go down

  far_kept : (o : J) (c : List J) → length c ≤ R → Ring Link c → (d : J') (i j : ℕ) → i < length (map f c) → j < length (map f c) → Distance Link' (gap (length (map f c)) i j) (get_or (map f c) i d) (get_or (map f c) j d)
  far_kept o c h r d i j hi hj =
      let e = length-map c f in
      let ki : i < length c = omega arith in
      let kj : j < length c = omega arith in
      let s = small (length c) i j ki kj in
      dist_as Link' (ap (λ L. gap L i j) (sym e)) (sym (get_or-map f c i o d ki)) (sym (get_or-map f c j o d kj))
      (distances_kept back cv (gap (length c) i j) (get_or c i o) (get_or c j o) (omega arith) (ring_far Link back c r o i j ki kj))

  pub ring_kept : (c : List J) → length c ≤ R → Ring Link c → Ring Link' (map f c)
  ring_kept [] h r = absurd (let l = r.cycle.closed.long in omega arith)
  ring_kept (o ∷ c) h r = ring_from Link' (map f (o ∷ c)) (let z = length-map (o ∷ c) f in let l = r.cycle.closed.long in omega arith) (far_kept o (o ∷ c) h r)

  pub uses_kept : (c : List J) (a b : J) → Uses c a b → Uses (map f c) (f a) (f b)
  uses_kept c a b u = record {
    place = u.place;
    after = u.after;
    next = subst (λ L. Next L u.place u.after) (sym (length-map c f)) u.next;
    either = elim u.either [
      | inl p ↦ inl (ap f p.0 ∙ sym (ListN.get_or-map f c u.place a), ap f p.1 ∙ sym (ListN.get_or-map f c u.after a))
      | inr p ↦ inr (ap f p.0 ∙ sym (ListN.get_or-map f c u.place a), ap f p.1 ∙ sym (ListN.get_or-map f c u.after a))
    ];
  }

  pub through_kept : (L : ℕ) (o x y : J) (c : List J) → L ≤ R → Through Link L o x y c → Through Link' L (f o) (f x) (f y) (map f c)
  through_kept L o x y c h t = record {
    ring = ring_kept c (let z = t.size in omega arith) t.ring;
    size = length-map c f ∙ t.size;
    one = uses_kept c o x t.one;
    other = uses_kept c o y t.other;
  }

  -- rings lift

  lift_list : (a : J) (r' : List J') → Chained Link' (f a ∷ r') → (r : List J) × Chained Link (a ∷ r) × (map f r ≡ r')
  lift_list a [] ch = ([], λ d i h. absurd (omega arith), refl)
  lift_list a (b' ∷ r') ch =
      let s = cv.lifts a b' (ch b' 0 (omega arith)) in
      let e = s.2 in
      let rest : Chained Link' (b' ∷ r') = λ d i h. ch d (suc i) (omega arith) in
      let t = lift_list s.0 r' (subst (λ z. Chained Link' (z ∷ r')) (sym e) rest) in
      let m = t.2 in
      (s.0 ∷ t.0, one_more Link a s.0 t.0 s.1 t.1, cc)

  closed_back : (c : List J) → length c ≤ R → Chained Link c → Closed Link' (map f c) → Closed Link c
  closed_back c h ch cl = record { long = let z = length-map c f in let l = cl.long in omega arith; linked = linked' }
    where
      closing : (d : J) (i : ℕ) → suc i ≡ length c → Link (get_or c i d) (get_or c 0 d)
      closing d i e =
          let z = length-map c f in
          let l : Link' (get_or (map f c) i (f d)) (get_or (map f c) 0 (f d)) = cl.linked (f d) i 0 (record { from = omega arith; to = omega arith; round = inr (omega arith) }) in
          let s = cv.lifts (get_or c i d) (f (get_or c 0 d)) (subst₂ (λ a b. Link' a b) (ListN.get_or-map f c i d) (ListN.get_or-map f c 0 d) l) in
          let w : Walk Link (i + 1) (get_or c 0 d) s.0 = join Link (chain_walk Link c ch d i (omega arith)) (step s.1 stay) in
          let p : get_or c 0 d ≡ s.0 = cv.apart (i + 1) (get_or c 0 d) s.0 (omega arith) w (sym s.2) in
          subst (λ b. Link (get_or c i d) b) (sym p) s.1

      linked' : (d : J) (i j : ℕ) → Next (length c) i j → Link (get_or c i d) (get_or c j d)
      linked' d i j n = elim n.round [
        | inl q ↦ subst (λ k. Link (get_or c i d) (get_or c k d)) (omega arith) (ch d i (omega arith))
        | inr q ↦ (let e : 0 ≡ j = omega arith in subst (λ k. Link (get_or c i d) (get_or c k d)) e (closing d i (omega arith)))
      ]

  ring_back : (c : List J) → length c ≤ R → Chained Link c → Ring Link' (map f c) → Ring Link c
  ring_back c h ch r = ring_by_halves Link back c cl halves
    where
      cl : Closed Link c
      cl = closed_back c h ch r.cycle.closed

      halves : HalvesAhead Link c
      halves d i j a =
          let e = length-map c f in
          let s = half (length c) in
          let hi = a.from in
          let hj = a.to in
          let v = a.round in
          let g : gap (length (map f c)) i j ≡ length c / 2 = ap (λ L. gap L i j) e ∙ (omega arith) in
          distances_back back cv (length c / 2) (length c / 2) (get_or c i d) (get_or c j d) (omega arith) (along Link c cl d (length c / 2) i j a)
          (dist_as Link' g (ListN.get_or-map f c i d) (ListN.get_or-map f c j d) (ring_far Link' back' (map f c) r (f d) i j (omega arith) (omega arith)))

  -- a ring below is below a ring, from any junction above its first
  pub ring_lifts : (a : J) (c' : List J') → length c' ≤ R → Ring Link' c' → f a ≡ get_or c' 0 (f a) → (c : List J) × Ring Link c × (map f c ≡ c') × (get_or c 0 a ≡ a)
  ring_lifts a [] h r e = absurd (let l = r.cycle.closed.long in omega arith)
  ring_lifts a (a' ∷ r') h r e =
      let rest : Chained Link' (a' ∷ r') = λ d i k. r.cycle.closed.linked d i (suc i) (record { from = omega arith; to = k; round = inl (omega arith) }) in
      let t = lift_list a r' (subst (λ z. Chained Link' (z ∷ r')) (sym e) rest) in
      let q = t.2 in
      let m : map f (a ∷ t.0) ≡ a' ∷ r' = cc in
      let z : length (a ∷ t.0) ≡ length (a' ∷ r') = sym (length-map (a ∷ t.0) f) ∙ ap length m in
      (a ∷ t.0, ring_back (a ∷ t.0) (omega arith) t.1 (subst (λ l. Ring Link' l) (sym m) r), m, refl)

  -- o stands in a ring, and the ring below uses f o and f x: the ring uses o and x
  angle_lifts : (c : List J) (o x : J) (p : ℕ) → length c ≤ R → Ring Link c → p < length c → o ≡ get_or c p o → Link o x → Uses (map f c) (f o) (f x) → Uses c o x
  angle_lifts c o x p h r hp at l u =
      let z = length-map c f in
      let long = r.cycle.closed.long in
      let b : Beside (map f c) (f o) (f x) = beside (omega arith) u in
      let bi = b.i_in in
      let bj = b.j_in in
      let hi : b.i < length c = omega arith in
      let hj : b.j < length c = omega arith in
      let s = small (length c) p b.i hp hi in
      let one : gap (length c) b.i b.j ≡ 1 = ap (λ L. gap L b.i b.j) (sym z) ∙ b.one in
      let far = ring_far Link back c r o in
      let o_is : o ≡ get_or c b.i o = cv.apart (gap (length c) p b.i) o (get_or c b.i o) (omega arith) (walk_as Link refl (sym at) refl (far p b.i hp hi).walk) (b.at_i ∙ ListN.get_or-map f c b.i o) in
      let x_is : x ≡ get_or c b.j o = near_by back cv 1 1 o x (get_or c b.j o) (omega arith) (step l stay) (walk_as Link one (sym o_is) refl (far b.i b.j hi hj).walk) (b.at_j ∙ ListN.get_or-map f c b.j o) in
      used (record { i = b.i; j = b.j; i_in = hi; j_in = hj; one = one; at_i = o_is; at_j = x_is })

  -- a ring above one through f o, that begins where the rest of a round from o ends, goes through o
  meets : (o a : J) (c : List J) (p : ℕ) → length c ≤ R → Ring Link c → p < length c → f o ≡ f (get_or c p o) → Walk Link (length c - p) o a → get_or c 0 a ≡ a → o ≡ get_or c p o
  meets o a c p h r hp e w first =
      let v : Walk Link p (get_or c 0 o) (get_or c p o) = along Link c r.cycle.closed o p 0 p (record { from = omega arith; to = omega arith; round = inl (omega arith) }) in
      let start : get_or c 0 o ≡ a = get_or_default c 0 o a (omega arith) ∙ first in
      cv.apart ((length c - p) + p) o (get_or c p o) (omega arith) (join Link w (walk_as Link refl start refl v)) e

  begun : (o a : J) (c' : List J') (p : ℕ) → length c' ≤ R → Ring Link' c' → p < length c' → f o ≡ get_or c' p (f o) → Walk Link (length c' - p) o a → f a ≡ get_or c' 0 (f o) → (c : List J) × Ring Link c × (map f c ≡ c') × (o ≡ get_or c p o)
  begun o a c' p h r hp at w e = more (ring_lifts a c' h r (e ∙ get_or_default c' 0 (f o) (f a) (omega arith)))
    where
      more : ((c : List J) × Ring Link c × (map f c ≡ c') × (get_or c 0 a ≡ a)) → (c : List J) × Ring Link c × (map f c ≡ c') × (o ≡ get_or c p o)
      more (c, rc, m, first) =
          let z : length c ≡ length c' = sym (length-map c f) ∙ ap length m in
          let below : f (get_or c p o) ≡ get_or c' p (f o) = sym (ListN.get_or-map f c p o) ∙ ap (λ l. get_or l p (f o)) m in
          (c, rc, m, meets o a c p (omega arith) rc (omega arith) (at ∙ sym below) (walk_as Link (ap (λ L. L - p) (sym z)) refl refl w) first)

  -- a ring below through f o is below a ring through o
  pub ring_through : (o : J) (c' : List J') (p : ℕ) → length c' ≤ R → Ring Link' c' → p < length c' → f o ≡ get_or c' p (f o) → (c : List J) × Ring Link c × (map f c ≡ c') × (o ≡ get_or c p o)
  ring_through o c' p h r hp at =
      let w : Walk Link' (length c' - p) (get_or c' p (f o)) (get_or c' 0 (f o)) = along Link' c' r.cycle.closed (f o) (length c' - p) p 0 (record { from = hp; to = omega arith; round = inr (omega arith) }) in
      let s = lifted back cv o at w in
      begun o s.0 c' p h r hp at s.1 s.2

  pub through_lifts : (L : ℕ) (o x y : J) (c' : List J') → L ≤ R → Link o x → Link o y → Through Link' L (f o) (f x) (f y) c' → (c : List J) × Through Link L o x y c × (map f c ≡ c')
  through_lifts L o x y c' h lx ly t =
      let z = t.size in
      let b : Beside c' (f o) (f x) = beside t.ring.cycle.closed.long t.one in
      let u = ring_through o c' b.i (omega arith) t.ring b.i_in b.at_i in
      let c = u.0 in
      let m = u.2 in
      let e : length c ≡ length c' = sym (length-map c f) ∙ ap length m in
      let bi = b.i_in in (
        c,
        record {
          ring = u.1;
          size = e ∙ z;
          one = angle_lifts c o x b.i (omega arith) u.1 (omega arith) u.3 lx (subst (λ l. Uses l (f o) (f x)) (sym m) t.one);
          other = angle_lifts c o y b.i (omega arith) u.1 (omega arith) u.3 ly (subst (λ l. Uses l (f o) (f y)) (sym m) t.other);
        },
        m,
      )

  -- the standard forms

  pub standard_kept : (L : ℕ) (o x y : J) (c : List J) → L ≤ R → Standard Link L o x y c → Standard Link' L (f o) (f x) (f y) (map f c)
  standard_kept L o x y c h s = record {
    ring = ring_kept c (let z = s.size in omega arith) s.ring;
    size = length-map c f ∙ s.size;
    first = ListN.get_or-map f c 0 o ∙ ap f s.first;
    second = ListN.get_or-map f c 1 o ∙ ap f s.second;
    last = ListN.get_or-map f c (L - 1) o ∙ ap f s.last;
  }

  pub standard_lifts : (L : ℕ) (o x y : J) (c' : List J') → L ≤ R → Link o x → Link o y → Standard Link' L (f o) (f x) (f y) c' → (c : List J) × Standard Link L o x y c × (map f c ≡ c')
  standard_lifts L o x y c' h lx ly s = more (ring_lifts o c' (let z = s.size in omega arith) s.ring (sym s.first))
    where
      more : ((c : List J) × Ring Link c × (map f c ≡ c') × (get_or c 0 o ≡ o)) → (c : List J) × Standard Link L o x y c × (map f c ≡ c')
      more (c, r, m, first) =
          let z : length c ≡ L = sym (length-map c f) ∙ ap length m ∙ s.size in
          let cl = r.cycle.closed in
          let long = cl.long in
          let below : (i : ℕ) → f (get_or c i o) ≡ get_or c' i (f o) = λ i. sym (ListN.get_or-map f c i o) ∙ ap (λ l. get_or l i (f o)) m in
          let l : Link (get_or c 0 o) (get_or c 1 o) = cl.linked o 0 1 (record { from = omega arith; to = omega arith; round = inl refl }) in
          let k : Link (get_or c (L - 1) o) (get_or c 0 o) = cl.linked o (L - 1) 0 (record { from = omega arith; to = omega arith; round = inr (omega arith) }) in (
            c,
            record {
              ring = r;
              size = z;
              first = first;
              second = near_by back cv 1 1 o (get_or c 1 o) x (omega arith) (walk_as Link refl first refl (step l stay)) (step lx stay) (below 1 ∙ s.second);
              last = near_by back cv 1 1 o (get_or c (L - 1) o) y (omega arith) (walk_as Link refl first refl (step (back (get_or c (L - 1) o) (get_or c 0 o) k) stay)) (step ly stay) (below (L - 1) ∙ s.last);
            },
            m,
          )

  -- the same ring

  same_down : (o : J) (c d : List J) → 3 ≤ length c → ((a b : J) → Uses c a b → Uses d a b) → (a b : J') → Uses (map f c) a b → Uses (map f d) a b
  same_down o c d long s a b u =
      let z = length-map c f in
      let v : Beside (map f c) a b = beside (omega arith) u in
      let vi = v.i_in in
      let vj = v.j_in in
      let hi : v.i < length c = omega arith in
      let hj : v.j < length c = omega arith in
      let p = get_or c v.i o in
      let q = get_or c v.j o in
      let w : Beside c p q = record { i = v.i; j = v.j; i_in = hi; j_in = hj; one = ap (λ L. gap L v.i v.j) (sym z) ∙ v.one; at_i = get_or_default c v.i o p hi; at_j = get_or_default c v.j o p hj } in
      subst₂ (λ a b. Uses (map f d) a b) (sym (v.at_i ∙ get_or-map f c v.i o a hi)) (sym (v.at_j ∙ get_or-map f c v.j o a hj)) (uses_kept d p q (s p q (used w)))

  -- two junctions of two rings through o that go to one
  meet : (L : ℕ) (c d : List J) (o a b : J) (p q i j : ℕ) → L ≤ R → Ring Link c → Ring Link d → length c ≡ L → length d ≡ L → p < L → q < L → i < L → j < L → o ≡ get_or c p o → o ≡ get_or d q o → a ≡ get_or c i o → b ≡ get_or d j o → f a ≡ f b → a ≡ b
  meet L c d o a b p q i j h r s zc zd hp hq hi hj op oq ai bj e =
      let m = small (length c) p i (omega arith) (omega arith) in
      let n = small (length d) q j (omega arith) (omega arith) in
      near_by back cv (gap (length c) p i) (gap (length d) q j) o a b (omega arith)
      (walk_as Link refl (sym op) (sym ai) (ring_far Link back c r o p i (omega arith) (omega arith)).walk)
      (walk_as Link refl (sym oq) (sym bj) (ring_far Link back d s o q j (omega arith) (omega arith)).walk)
      e

  same_up : (L : ℕ) (o x y : J) (c d : List J) → L ≤ R → Through Link L o x y c → Through Link L o x y d → ((a b : J') → Uses (map f c) a b → Uses (map f d) a b) → (a b : J) → Uses c a b → Uses d a b
  same_up L o x y c d h t t' s a b u =
      let zc = t.size in
      let zd = t'.size in
      let e = length-map d f in
      let lc = t.ring.cycle.closed.long in
      let ld = t'.ring.cycle.closed.long in
      let p : Beside c o x = beside lc t.one in
      let q : Beside d o x = beside ld t'.one in
      let v : Beside c a b = beside lc u in
      let w : Beside (map f d) (f a) (f b) = beside (omega arith) (s (f a) (f b) (uses_kept c a b u)) in
      let pi = p.i_in in
      let qi = q.i_in in
      let vi = v.i_in in
      let vj = v.j_in in
      let wi = w.i_in in
      let wj = w.j_in in
      let hi : w.i < length d = omega arith in
      let hj : w.j < length d = omega arith in
      let a_is : a ≡ get_or d w.i a = meet L c d o a (get_or d w.i a) p.i q.i v.i w.i h t.ring t'.ring zc zd (omega arith) (omega arith) (omega arith) (omega arith) p.at_i q.at_i (v.at_i ∙ get_or_default c v.i a o vi) (get_or_default d w.i a o hi) (w.at_i ∙ ListN.get_or-map f d w.i a) in
      let b_is : b ≡ get_or d w.j a = meet L c d o b (get_or d w.j a) p.i q.i v.j w.j h t.ring t'.ring zc zd (omega arith) (omega arith) (omega arith) (omega arith) p.at_i q.at_i (v.at_j ∙ get_or_default c v.j a o vj) (get_or_default d w.j a o hj) (w.at_j ∙ ListN.get_or-map f d w.j a) in
      used (record { i = w.i; j = w.j; i_in = hi; j_in = hj; one = ap (λ L. gap L w.i w.j) (sym e) ∙ w.one; at_i = a_is; at_j = b_is })

  pub same_ring : (L : ℕ) (o x y : J) (c d : List J) → L ≤ R → Through Link L o x y c → Through Link L o x y d → SameRing c d ↔ SameRing (map f c) (map f d)
  same_ring L o x y c d h t u = (
    λ s a b. (same_down o c d t.ring.cycle.closed.long (λ p q. (s p q).0) a b, same_down o d c u.ring.cycle.closed.long (λ p q. (s p q).1) a b),
    λ s a b. (same_up L o x y c d h t u (λ p q. (s p q).0) a b, same_up L o x y d c h u t (λ p q. (s p q).1) a b),
  )

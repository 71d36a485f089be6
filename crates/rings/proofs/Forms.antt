-- The standard form of a ring through an angle: it exists, and it is one. Assumes nothing.
use Rattle.std.proofs.Common.{◌≡◌, ℕ, zero, suc, ◌-◌, ◌<◌, ◌≤◌, List, length, get_or, sym, refl, ap, ◌∙◌, subst, inl, inr, arith}
use Rattle.std.proofs.lemmas.List.{get_or_default, ext_get_or}
use Rattle.mesh.proofs.Lists.{one_place}
use Rattle.rings.specs.Ahead.{Next}
use Rattle.rings.specs.Ring.{Ring}
use Rattle.rings.specs.Uses.{Uses}
use Rattle.rings.specs.SameRing.{SameRing}
use Rattle.rings.specs.Turned.{rotated, turned}
use Rattle.rings.specs.Through.{Through}
use Rattle.rings.specs.Standard.{Standard}
use Rattle.rings.specs.FormLaws.{FormLaws}
use Rattle.rings.proofs.Places.{different}
use Rattle.rings.proofs.Rounds.{gap}
use Rattle.rings.proofs.Gaps.{gap_next, Beside, beside}
use Rattle.rings.proofs.Turns.{rotated_read, rotation, turned_read, reversal}

module _ {J : Type 0} where
  pub same_sym : {c d : List J} → SameRing c d → SameRing d c
  same_sym s = λ a b. ((s a b).1, (s a b).0)

  pub same_trans : {c d e : List J} → SameRing c d → SameRing d e → SameRing c e
  same_trans s t = λ a b. (λ u. (t a b).0 ((s a b).0 u), λ u. (s a b).1 ((t a b).1 u))

  -- an element and the next are used
  uses_next : (c : List J) (o : J) (i j : ℕ) → Next (length c) i j → Uses c (get_or c i o) (get_or c j o)
  uses_next c o i j n = record { place = i; after = j; next = n; either = inl (get_or_default c i o (get_or c i o) n.from, get_or_default c j o (get_or c i o) n.to) }

module _ {J : Type 0} (Link : J → J → Type 0) where
  pub form_through : (L : ℕ) (o x y : J) (c : List J) → Standard Link L o x y c → Through Link L o x y c
  form_through L o x y c s =
      let z = s.size in
      let long = s.ring.cycle.closed.long in
      record {
        ring = s.ring;
        size = z;
        one = record { place = 0; after = 1; next = record { from = omega arith; to = omega arith; round = inl refl }; either = inl (sym s.first, sym s.second) };
        other = record { place = L - 1; after = 0; next = record { from = omega arith; to = omega arith; round = inr (omega arith) }; either = inr (sym s.last, sym s.first) };
      }

  module _ (back : (a b : J) → Link a b → Link b a) where
    rotated_form : (c : List J) → Ring Link c → (o x y : J) (i j k : ℕ) → Next (length c) i j → Next (length c) k i → o ≡ get_or c i o → x ≡ get_or c j o → y ≡ get_or c k o → Standard Link (length c) o x y (rotated i c)
    rotated_form c r o x y i j k n b eo ex ey =
        let long = r.cycle.closed.long in
        let h : i ≤ length c = omega arith in
        let t = rotation Link back c i h r in
        let z = t.size in
        let p = rotated_read i c h 0 (omega arith) in
        let q = rotated_read i c h 1 (omega arith) in
        let w = rotated_read i c h (length c - 1) (omega arith) in
        let p_is : p.0 ≡ i = omega arith in
        let q_is : q.0 ≡ j = omega arith in
        let w_is : w.0 ≡ k = omega arith in
        record {
          ring = t.ring;
          size = z;
          first = p.3 o ∙ ap (λ m. get_or c m o) p_is ∙ sym eo;
          second = q.3 o ∙ ap (λ m. get_or c m o) q_is ∙ sym ex;
          last = w.3 o ∙ ap (λ m. get_or c m o) w_is ∙ sym ey;
        }

    turned_form : (L : ℕ) (o x y : J) (c : List J) → Standard Link L o x y c → Standard Link L o y x (turned c)
    turned_form L o x y c s =
        let long = s.ring.cycle.closed.long in
        let e = s.size in
        let t = reversal Link back c s.ring in
        let z = t.size in
        let p = turned_read c 0 (omega arith) in
        let q = turned_read c 1 (omega arith) in
        let w = turned_read c (L - 1) (omega arith) in
        let p_is : p.0 ≡ 0 = omega arith in
        let q_is : q.0 ≡ L - 1 = omega arith in
        let w_is : w.0 ≡ 1 = omega arith in
        record {
          ring = t.ring;
          size = z ∙ e;
          first = p.3 o ∙ ap (λ m. get_or c m o) p_is ∙ s.first;
          second = q.3 o ∙ ap (λ m. get_or c m o) q_is ∙ s.last;
          last = w.3 o ∙ ap (λ m. get_or c m o) w_is ∙ s.second;
        }

    -- the form of a ring in which x comes after o and y before it
    onward : (c : List J) → Ring Link c → (o x y : J) (i j k : ℕ) → Next (length c) i j → Next (length c) k i → o ≡ get_or c i o → x ≡ get_or c j o → y ≡ get_or c k o → (c' : List J) × Standard Link (length c) o x y c' × SameRing c c'
    onward c r o x y i j k n b eo ex ey = (rotated i c, rotated_form c r o x y i j k n b eo ex ey, same_sym {c = rotated i c} {d = c} (rotation Link back c i (let h = n.from in omega arith) r).same)

    form_at : (c : List J) → Ring Link c → (o x y : J) → (x ≡ y → ⊥) → (i j k : ℕ) → i < length c → j < length c → k < length c → gap (length c) i j ≡ 1 → gap (length c) i k ≡ 1 → o ≡ get_or c i o → x ≡ get_or c j o → y ≡ get_or c k o → (c' : List J) × Standard Link (length c) o x y c' × SameRing c c'
    form_at c r o x y ne i j k hi hj hk gj gk eo ex ey = elim (gap_next (length c) i j hi hj gj) [
      | inl n ↦ elim (gap_next (length c) i k hi hk gk) [
        | inl b ↦ absurd (ne (ex ∙ ap (λ m. get_or c m o) (after_one (length c) i j k n b) ∙ sym ey))
        | inr b ↦ onward c r o x y i j k n b eo ex ey
      ]
      | inr n ↦ elim (gap_next (length c) i k hi hk gk) [
        | inl b ↦
            (let f = onward c r o y x i k j b n eo ey ex in
            (turned f.0, turned_form (length c) o y x f.0 f.1, same_trans {c = c} {d = f.0} {e = turned f.0} f.2 (same_sym {c = turned f.0} {d = f.0} (reversal Link back f.0 f.1.ring).same)))
        | inr b ↦ absurd (ne (ex ∙ ap (λ m. get_or c m o) (before_one (length c) i j k n b) ∙ sym ey))
      ]
    ]
      where
        after_one : (L i j k : ℕ) → Next L i j → Next L i k → j ≡ k
        after_one L i j k n b = omega arith

        before_one : (L i j k : ℕ) → Next L j i → Next L k i → j ≡ k
        before_one L i j k n b = omega arith

    pub form_exists : (L : ℕ) (o x y : J) → (x ≡ y → ⊥) → (c : List J) → Through Link L o x y c → (d : List J) × Standard Link L o x y d × SameRing c d
    form_exists L o x y ne c t =
        let r = t.ring in
        let long = r.cycle.closed.long in
        let p : Beside c o x = beside long t.one in
        let q : Beside c o y = beside long t.other in
        let e : q.i ≡ p.i = one_place c r.cycle.distinct q.i p.i o q.i_in p.i_in (sym q.at_i ∙ p.at_i) in
        let f = form_at c r o x y ne p.i p.j q.j p.i_in p.j_in q.j_in p.one (ap (λ m. gap (length c) m q.j) (sym e) ∙ q.one) p.at_i p.at_j q.at_j in
        (f.0, subst (λ n. Standard Link n o x y f.0) t.size f.1, f.2)

  module _ (L : ℕ) (o x y : J) (c d : List J) (s : Standard Link L o x y c) (t : Standard Link L o x y d) (same : SameRing c d) where
    one_more : (p : ℕ) → suc (suc p) < L → get_or c p o ≡ get_or d p o → get_or c (suc p) o ≡ get_or d (suc p) o → get_or c (suc (suc p)) o ≡ get_or d (suc (suc p)) o
    one_more p h e f =
        let zc = s.size in
        let zd = t.size in
        let long = t.ring.cycle.closed.long in
        let a = get_or c (suc p) o in
        let b = get_or c (suc (suc p)) o in
        let n : Next (length c) (suc p) (suc (suc p)) = record { from = omega arith; to = omega arith; round = inl (omega arith) } in
        let u : Beside d a b = beside long ((same a b).0 (uses_next c o (suc p) (suc (suc p)) n)) in
        let at_q : a ≡ get_or d u.i o = u.at_i ∙ get_or_default d u.i a o u.i_in in
        let at_r : b ≡ get_or d u.j o = u.at_j ∙ get_or_default d u.j a o u.j_in in
        let q_is : u.i ≡ suc p = one_place d t.ring.cycle.distinct u.i (suc p) o u.i_in (omega arith) (sym at_q ∙ f) in
        let g : gap (length d) (suc p) u.j ≡ 1 = ap (λ m. gap (length d) m u.j) (sym q_is) ∙ u.one in
        elim (gap_next (length d) (suc p) u.j (omega arith) u.j_in g) [
          | inl k ↦ at_r ∙ ap (λ m. get_or d m o) (onto p (length d) u.j (omega arith) k)
          | inr k ↦ absurd (different c s.ring.cycle.distinct o p (suc (suc p)) (omega arith) (omega arith) (e ∙ sym (at_r ∙ ap (λ m. get_or d m o) (from p (length d) u.j (omega arith) k))))
        ]
      where
        onto : (p n j : ℕ) → suc (suc p) < n → Next n (suc p) j → j ≡ suc (suc p)
        onto p n j h k = omega arith

        from : (p n j : ℕ) → suc (suc p) < n → Next n j (suc p) → j ≡ p
        from p n j h k = omega arith

    alike : (p : ℕ) → suc p < L → (get_or c p o ≡ get_or d p o) × (get_or c (suc p) o ≡ get_or d (suc p) o)
    alike zero h = (s.first ∙ sym t.first, s.second ∙ sym t.second)
    alike (suc p) h = let i = alike p (omega arith) in (i.1, one_more p h i.0 i.1)

    pub form_same : c ≡ d
    form_same = ext_get_or o c d (s.size ∙ sym t.size) every
      where
        every : (i : ℕ) → i < length c → get_or c i o ≡ get_or d i o
        every zero h = s.first ∙ sym t.first
        every (suc p) h = (alike p (let z = s.size in omega arith)).1

  pub form_laws : (back : (a b : J) → Link a b → Link b a) → FormLaws Link
  form_laws back = record {
    exists = form_exists back;
    unique = λ L o x y c d e s t p q. form_same L o x y d e s t (same_trans {c = d} {d = c} {e = e} (same_sym {c = c} {d = d} p) q);
    through = form_through;
  }

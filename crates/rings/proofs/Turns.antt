-- A rotation and the reversal of a ring are the same ring. Assumes nothing.
use Rattle.std.proofs.Common.{◌≡◌, ℕ, zero, suc, ◌+◌, ◌-◌, ◌<◌, ◌≤◌, min, ◌⊎◌, List, [], ◌∷◌, length, get_or, take, drop, sym, refl, ap, ◌∙◌, subst, inl, inr, arith, length-append, length-drop, length-take}
use native.Mathlib.Decide.{dec_lt}
use lib.ListN.{length-reverse}
use Rattle.std.proofs.lemmas.List.{get_or_append_left, get_or-append_right, get_or-drop, get_or-take, get_or-reverse}
use Rattle.mesh.specs.Distance.{Distance}
use Rattle.rings.specs.Ahead.{Ahead}
use Rattle.rings.specs.Ring.{Ring}
use Rattle.rings.specs.Uses.{Uses}
use Rattle.rings.specs.Turned.{rotated, turned}
use Rattle.rings.specs.TurnLaws.{Again, TurnLaws}
use Rattle.rings.proofs.Places.{compared}
use Rattle.rings.proofs.Rounds.{gap, dist_as, ring_far}
use Rattle.rings.proofs.Gaps.{Beside, beside, used, ring_from}

-- each place i of c' holds what a place j of c does, where R i j
abbrev Read : {J : Type 0} → (ℕ → ℕ → Type 0) → List J → List J → Type 0
Read {J} R c c' = (i : ℕ) → i < length c' → (j : ℕ) × (j < length c) × R i j × ((d : J) → get_or c' i d ≡ get_or c j d)

abbrev Keeps : ℕ → (ℕ → ℕ → Type 0) → Type 0
Keeps L R = (i j k l : ℕ) → R i j → R k l → gap L j l ≡ gap L i k

module _ {J : Type 0} (R : ℕ → ℕ → Type 0) (c c' : List J) (size : length c' ≡ length c) (keeps : Keeps (length c) R) (read : Read R c c') where
  moved_ring : (Link : J → J → Type 0) (back : (a b : J) → Link a b → Link b a) → Ring Link c → Ring Link c'
  moved_ring Link back r = ring_from Link c' (let h = r.cycle.closed.long in omega arith) far
    where
      far : (d : J) (i j : ℕ) → i < length c' → j < length c' → Distance Link (gap (length c') i j) (get_or c' i d) (get_or c' j d)
      far d i j hi hj =
          let a = read i hi in
          let b = read j hj in
          let k = keeps i a.0 j b.0 a.2 b.2 in
          dist_as Link (k ∙ ap (λ n. gap n i j) (sym size)) (sym (a.3 d)) (sym (b.3 d)) (ring_far Link back c r d a.0 b.0 a.1 b.1)

  moved_uses : 3 ≤ length c → (a b : J) → Uses c' a b → Uses c a b
  moved_uses long a b u =
      let s : Beside c' a b = beside (omega arith) u in
      let p = read s.i s.i_in in
      let q = read s.j s.j_in in
      let k = keeps s.i p.0 s.j q.0 p.2 q.2 in
      used (record { i = p.0; j = q.0; i_in = p.1; j_in = q.1; one = k ∙ ap (λ n. gap n s.i s.j) (sym size) ∙ s.one; at_i = s.at_i ∙ p.3 a; at_j = s.at_j ∙ q.3 a })

-- rotation

rotated_size : {J : Type 0} (k : ℕ) (c : List J) → k ≤ length c → length (rotated k c) ≡ length c
rotated_size k c h = simp (length-append, length-drop, length-take) (omega arith)

-- how far apart two numbers are
abbrev apart : ℕ → ℕ → ℕ
apart i j = (j - i) + (i - j)

both_on : (i j k i' j' : ℕ) → i + k ≡ j → i' + k ≡ j' → apart j j' ≡ apart i i'
both_on i j k i' j' p q = omega arith

both_round : (L i j k i' j' : ℕ) → i + k ≡ j + L → i' + k ≡ j' + L → apart j j' ≡ apart i i'
both_round L i j k i' j' p q = omega arith

one_round : (L i j k i' j' : ℕ) → i < L → j < L → i' < L → j' < L → i + k ≡ j → i' + k ≡ j' + L → apart j j' + apart i i' ≡ L
one_round L i j k i' j' a b c d p q = omega arith

round_one : (L i j k i' j' : ℕ) → i < L → j < L → i' < L → j' < L → i + k ≡ j + L → i' + k ≡ j' → apart j j' + apart i i' ≡ L
round_one L i j k i' j' a b c d p q = omega arith

round_min : (L a b : ℕ) → a + b ≡ L → min a (L - a) ≡ min b (L - b)
round_min L a b h = omega arith

rotated_keeps : (L k : ℕ) → Keeps L (Ahead L k)
rotated_keeps L k i j i' j' p q = elim p.round [
  | inl e ↦ elim q.round [
    | inl f ↦ ap (λ n. min n (L - n)) (both_on i j k i' j' e f)
    | inr f ↦ round_min L (apart j j') (apart i i') (one_round L i j k i' j' p.from p.to q.from q.to e f)
  ]
  | inr e ↦ elim q.round [
    | inl f ↦ round_min L (apart j j') (apart i i') (round_one L i j k i' j' p.from p.to q.from q.to e f)
    | inr f ↦ ap (λ n. min n (L - n)) (both_round L i j k i' j' e f)
  ]
]

rotated_back_keeps : (L k : ℕ) → Keeps L (λ i j. Ahead L k j i)
rotated_back_keeps L k i j i' j' p q = sym (rotated_keeps L k j i j' i' p q)

pub rotated_read : {J : Type 0} (k : ℕ) (c : List J) → k ≤ length c → Read (Ahead (length c) k) c (rotated k c)
rotated_read {J} k c h i b =
    let e = rotated_size k c h in
    let inside : i < length c = omega arith in
    elim (dec_lt (i + k) (length c)) [
      | yes s ↦ (
        i + k,
        s,
        record { from = inside; to = s; round = inl refl },
        λ d. get_or_append_left (drop k c) (take k c) d i (rw length-drop (omega arith)) ∙ get_or-drop k c i d ∙ ap (λ n. get_or c n d) (omega arith),
      )
      | no s ↦ (
        i + k - length c,
        omega arith,
        record { from = inside; to = omega arith; round = inr (omega arith) },
        λ d. get_or-append_right (drop k c) (take k c) (length c - k) i d (length-drop k c) (omega arith) ∙ get_or-take k c (i - (length c - k)) d (omega arith) ∙ ap (λ n. get_or c n d) (omega arith),
      )
    ]

rotated_back_read : {J : Type 0} (k : ℕ) (c : List J) → k ≤ length c → Read (λ i j. Ahead (length c) k j i) (rotated k c) c
rotated_back_read {J} k c h i b = elim (dec_lt i k) [
  | yes s ↦ at (i + length c - k) (omega arith) (inr (omega arith))
  | no s ↦ at (i - k) (omega arith) (inl (omega arith))
]
  where
    at : (j : ℕ) → j < length c → (j + k ≡ i) ⊎ (j + k ≡ i + length c) → (j : ℕ) × (j < length (rotated k c)) × Ahead (length c) k j i × ((d : J) → get_or c i d ≡ get_or (rotated k c) j d)
    at j s e =
        let z = rotated_size k c h in
        let t : j < length (rotated k c) = omega arith in
        let r = rotated_read k c h j t in
        let q : r.0 ≡ i = omega arith in
        (j, t, subst (λ n. Ahead (length c) k j n) q r.2, λ d. ap (λ n. get_or c n d) (sym q) ∙ sym (r.3 d))

pub rotation : {J : Type 0} (Link : J → J → Type 0) (back : (a b : J) → Link a b → Link b a) (c : List J) (k : ℕ) → k ≤ length c → Ring Link c → Again Link c (rotated k c)
rotation Link back c k h r =
    let e = rotated_size k c h in
    let long = r.cycle.closed.long in
    record {
      size = e;
      ring = moved_ring (Ahead (length c) k) c (rotated k c) e (rotated_keeps (length c) k) (rotated_read k c h) Link back r;
      same = λ a b. (
        moved_uses (Ahead (length c) k) c (rotated k c) e (rotated_keeps (length c) k) (rotated_read k c h) long a b,
        moved_uses (λ i j. Ahead (length c) k j i) (rotated k c) c (sym e) (rw e (rotated_back_keeps (length c) k)) (rotated_back_read k c h) (omega arith) a b,
      );
    }

-- reversal

pub record Mirror (L i j : ℕ) : Type 0 where
  pub from : i < L
  pub to : j < L
  pub round : (i + j ≡ 0) ⊎ (i + j ≡ L)

turned_size : {J : Type 0} (c : List J) → length (turned c) ≡ length c
turned_size [] = refl
turned_size (a ∷ c) = ap suc (length-reverse c)

mirror_keeps : (L : ℕ) → Keeps L (Mirror L)
mirror_keeps L i j i' j' p q = omega arith

mirror_back_keeps : (L : ℕ) → Keeps L (λ i j. Mirror L j i)
mirror_back_keeps L i j i' j' p q = omega arith

pub turned_read : {J : Type 0} (c : List J) → Read (Mirror (length c)) c (turned c)
turned_read [] i b = absurd (omega arith)
turned_read (a ∷ c) zero b = (0, omega arith, record { from = omega arith; to = omega arith; round = inl refl }, λ d. refl)
turned_read (a ∷ c) (suc i) b =
    let e = length-reverse c in
    let h : i < length c = omega arith in
    (suc (length c - 1 - i), omega arith, record { from = omega arith; to = omega arith; round = inr (omega arith) }, λ d. get_or-reverse c i d h)

turned_back_read : {J : Type 0} (c : List J) → Read (λ i j. Mirror (length c) j i) (turned c) c
turned_back_read {J} c i b = elim (compared 0 i) [
  | inl s ↦ at (length c - i) (omega arith) (inr (omega arith))
  | inr (inl s) ↦ at 0 (omega arith) (inl (omega arith))
  | inr (inr s) ↦ absurd (omega arith)
]
  where
    at : (j : ℕ) → j < length c → (j + i ≡ 0) ⊎ (j + i ≡ length c) → (j : ℕ) × (j < length (turned c)) × Mirror (length c) j i × ((d : J) → get_or c i d ≡ get_or (turned c) j d)
    at j s e =
        let z = turned_size c in
        let t : j < length (turned c) = omega arith in
        let r = turned_read c j t in
        let q : r.0 ≡ i = omega arith in
        (j, t, subst (λ n. Mirror (length c) j n) q r.2, λ d. ap (λ n. get_or c n d) (sym q) ∙ sym (r.3 d))

pub reversal : {J : Type 0} (Link : J → J → Type 0) (back : (a b : J) → Link a b → Link b a) (c : List J) → Ring Link c → Again Link c (turned c)
reversal Link back c r =
    let e = turned_size c in
    let long = r.cycle.closed.long in
    record {
      size = e;
      ring = moved_ring (Mirror (length c)) c (turned c) e (mirror_keeps (length c)) (turned_read c) Link back r;
      same = λ a b. (
        moved_uses (Mirror (length c)) c (turned c) e (mirror_keeps (length c)) (turned_read c) long a b,
        moved_uses (λ i j. Mirror (length c) j i) (turned c) c (sym e) (rw e (mirror_back_keeps (length c))) (turned_back_read c) (omega arith) a b,
      );
    }

pub turn_laws : {J : Type 0} (Link : J → J → Type 0) (back : (a b : J) → Link a b → Link b a) → TurnLaws Link
turn_laws Link back = record { rotation = rotation Link back; reversal = reversal Link back }

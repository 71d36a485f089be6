-- A closed walk is a ring exactly if its halves have no shortcut. Assumes nothing.
use Rattle.std.proofs.Common.{◌≡◌, ℕ, ◌+◌, ◌-◌, ◌/◌, ◌%◌, ◌<◌, ◌≤◌, min, List, length, get_or, sym, refl, ap, ◌∙◌, inl, inr, mod-eq_of_lt, arith}
use native.Mathlib.Nat.{mod-eq-sub-mod}
use native.Mathlib.Decide.{dec_lt}
use Rattle.mesh.specs.Walk.{Walk, stay}
use Rattle.mesh.specs.Distance.{Distance}
use Rattle.mesh.specs.Exactly.{Distinct}
use Rattle.mesh.proofs.Walks.{join, turn_distance}
use Rattle.rings.specs.Ahead.{Ahead}
use Rattle.rings.specs.Closed.{Closed}
use Rattle.rings.specs.Ring.{Ring}
use Rattle.rings.specs.Halves.{Halves}
use Rattle.rings.specs.HalfWayLaws.{HalfWayLaws}
use Rattle.rings.proofs.Places.{compared, distinct_by_places}
use Rattle.rings.proofs.Rounds.{walk_as, dist_as, ring_far, along}

-- the halves, by the places half way round
abbrev pub HalvesAhead : {J : Type 0} → (J → J → Type 0) → List J → Type 0
HalvesAhead {J} Link c = (d : J) (i j : ℕ) → Ahead (length c) (length c / 2) i j → Distance Link (length c / 2) (get_or c i d) (get_or c j d)

-- the place k ahead, as a remainder
pub ahead_mod : (L k i : ℕ) → i < L → k ≤ L → Ahead L k i ((i + k) % L)
ahead_mod L k i h b = elim (dec_lt (i + k) L) [
  | yes s ↦ (let e : (i + k) % L ≡ i + k = mod-eq_of_lt s in record { from = h; to = omega arith; round = inl (sym e) })
  | no s ↦
      (let t : L ≤ i + k = omega arith in
      let u : i + k - L < L = omega arith in
      let e : (i + k) % L ≡ i + k - L = mod-eq-sub-mod t ∙ mod-eq_of_lt u in
      record { from = h; to = omega arith; round = inr (omega arith) })
]

one_ahead : (L k i j l : ℕ) → Ahead L k i j → Ahead L k i l → j ≡ l
one_ahead L k i j l p q = omega arith

module _ {J : Type 0} (Link : J → J → Type 0) (back : (a b : J) → Link a b → Link b a) where
  -- what lies k places ahead, not past the half, is at distance k
  ahead_far : (c : List J) → Closed Link c → HalvesAhead Link c → (d : J) (k i j : ℕ) → k ≤ length c / 2 → Ahead (length c) k i j → Distance Link k (get_or c i d) (get_or c j d)
  ahead_far c cl hv d k i j small h = record { walk = along Link c cl d k i j h; fewest = less }
    where
      -- the place half way round from i, and the rest of the way to it
      place : (p : ℕ) × Ahead (length c) (length c / 2) i p × Ahead (length c) (length c / 2 - k) j p
      place = elim (compared (i + length c / 2) (length c)) [
        | inl b ↦ (i + length c / 2, record { from = h.from; to = b; round = inl refl }, record { from = h.to; to = b; round = inl (omega arith) })
        | inr (inl e) ↦ (0, record { from = h.from; to = omega arith; round = inr (omega arith) }, record { from = h.to; to = omega arith; round = elim h.round [ inl q ↦ inr (omega arith) | inr q ↦ inl (omega arith) ] })
        | inr (inr b) ↦ (i + length c / 2 - length c, record { from = h.from; to = omega arith; round = inr (omega arith) }, record { from = h.to; to = omega arith; round = elim h.round [ inl q ↦ inr (omega arith) | inr q ↦ inl (omega arith) ] })
      ]

      less : (n : ℕ) → n < k → Walk Link n (get_or c i d) (get_or c j d) → ⊥
      less n b w =
          let p = place in
          (hv d i p.0 p.1).fewest (n + (length c / 2 - k)) (omega arith) (join Link w (along Link c cl d (length c / 2 - k) j p.0 p.2))

  closed_far : (c : List J) → Closed Link c → HalvesAhead Link c → (d : J) (i j : ℕ) → i < j → j < length c → Distance Link (min (j - i) (length c - (j - i))) (get_or c i d) (get_or c j d)
  closed_far c cl hv d i j b h = elim (compared (j - i) (length c - (j - i))) [
    | inl s ↦ dist_as Link (omega arith) refl refl (ahead_far c cl hv d (j - i) i j (omega arith) (record { from = omega arith; to = h; round = inl (omega arith) }))
    | inr (inl s) ↦ dist_as Link (omega arith) refl refl (ahead_far c cl hv d (j - i) i j (omega arith) (record { from = omega arith; to = h; round = inl (omega arith) }))
    | inr (inr s) ↦ dist_as Link (omega arith) refl refl (turn_distance Link back (ahead_far c cl hv d (length c - (j - i)) j i (omega arith) (record { from = h; to = omega arith; round = inr (omega arith) })))
  ]

  closed_distinct : (c : List J) → Closed Link c → HalvesAhead Link c → Distinct c
  closed_distinct c cl hv = distinct_by_places c (λ d i j b h e. (closed_far c cl hv d i j b h).fewest 0 (omega arith) (walk_as Link refl refl e stay))

  pub ring_by_halves : (c : List J) → Closed Link c → HalvesAhead Link c → Ring Link c
  ring_by_halves c cl hv = record { cycle = record { closed = cl; distinct = closed_distinct c cl hv }; isometric = closed_far c cl hv }

  ring_halves : (c : List J) → Ring Link c → HalvesAhead Link c
  ring_halves c r d i j h = dist_as Link (omega arith) refl refl (ring_far Link back c r d i j h.from h.to)

  -- halves by remainders are halves by places
  halves_ahead : (c : List J) → Halves Link c → HalvesAhead Link c
  halves_ahead c hv d i j h =
      let p = ahead_mod (length c) (length c / 2) i h.from (omega arith) in
      dist_as Link refl refl (ap (λ n. get_or c n d) (one_ahead (length c) (length c / 2) i ((i + length c / 2) % length c) j p h)) (hv d i h.from)

  pub half_way_laws : HalfWayLaws Link
  half_way_laws = record {
    enough = λ c cl hv. ring_by_halves c cl (halves_ahead c hv);
    needed = λ c r d i h. ring_halves c r d i ((i + length c / 2) % length c) (ahead_mod (length c) (length c / 2) i h (omega arith));
  }

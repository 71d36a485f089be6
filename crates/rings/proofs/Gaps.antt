-- A ring by the gaps between its places. Assumes nothing.
use Rattle.std.proofs.Common.{◌≡◌, ℕ, suc, ◌<◌, ◌≤◌, ◌⊎◌, List, length, get_or, refl, inl, inr, arith}
use Rattle.mesh.specs.Walk.{Walk, stay, step}
use Rattle.mesh.specs.Distance.{Distance}
use Rattle.rings.specs.Ahead.{Next}
use Rattle.rings.specs.Ring.{Ring}
use Rattle.rings.specs.Uses.{Uses}
use Rattle.rings.proofs.Places.{compared, distinct_by_places}
use Rattle.rings.proofs.Rounds.{gap, walk_as, dist_as}

next_gap : (L i j : ℕ) → 3 ≤ L → Next L i j → gap L i j ≡ 1
next_gap L i j h n = omega arith

pub gap_next : (L i j : ℕ) → i < L → j < L → gap L i j ≡ 1 → Next L i j ⊎ Next L j i
gap_next L i j hi hj e = elim (compared i j) [
  | inl b ↦ elim (compared (suc i) j) [
    | inl s ↦ inr (record { from = hj; to = hi; round = inr (omega arith) })
    | inr (inl s) ↦ inl (record { from = hi; to = hj; round = inl (omega arith) })
    | inr (inr s) ↦ absurd (omega arith)
  ]
  | inr (inl b) ↦ absurd (omega arith)
  | inr (inr b) ↦ elim (compared (suc j) i) [
    | inl s ↦ inl (record { from = hi; to = hj; round = inr (omega arith) })
    | inr (inl s) ↦ inr (record { from = hj; to = hi; round = inl (omega arith) })
    | inr (inr s) ↦ absurd (omega arith)
  ]
]

-- two places at a gap of one hold a and b
pub record Beside {J : Type 0} (c : List J) (a b : J) : Type 0 where
  pub i : ℕ
  pub j : ℕ
  pub i_in : i < length c
  pub j_in : j < length c
  pub one : gap (length c) i j ≡ 1
  pub at_i : a ≡ get_or c i a
  pub at_j : b ≡ get_or c j a

pub beside : {J : Type 0} {c : List J} {a b : J} → 3 ≤ length c → Uses c a b → Beside c a b
beside {c = c} h u = elim u.either [
  | inl e ↦ record { i = u.place; j = u.after; i_in = u.next.from; j_in = u.next.to; one = next_gap (length c) u.place u.after h u.next; at_i = e.0; at_j = e.1 }
  | inr e ↦ record { i = u.after; j = u.place; i_in = u.next.to; j_in = u.next.from; one = let g = next_gap (length c) u.place u.after h u.next in omega arith; at_i = e.1; at_j = e.0 }
]

pub used : {J : Type 0} {c : List J} {a b : J} → Beside c a b → Uses c a b
used {c = c} s = elim (gap_next (length c) s.i s.j s.i_in s.j_in s.one) [
  | inl n ↦ record { place = s.i; after = s.j; next = n; either = inl (s.at_i, s.at_j) }
  | inr n ↦ record { place = s.j; after = s.i; next = n; either = inr (s.at_j, s.at_i) }
]

module _ {J : Type 0} (Link : J → J → Type 0) where
  pub link_of : {n : ℕ} {a b : J} → n ≡ 1 → Walk Link n a b → Link a b
  link_of e stay = absurd (omega arith)
  link_of e (step l stay) = l
  link_of e (step l (step k w)) = absurd (omega arith)

  pub ring_from : (c : List J) → 3 ≤ length c → ((d : J) (i j : ℕ) → i < length c → j < length c → Distance Link (gap (length c) i j) (get_or c i d) (get_or c j d)) → Ring Link c
  ring_from c h f = record {
    cycle = record {
      closed = record { long = h; linked = λ d i j n. link_of (next_gap (length c) i j h n) (f d i j n.from n.to).walk };
      distinct = distinct_by_places c (λ d i j b k e. (f d i j (omega arith) k).fewest 0 (omega arith) (walk_as Link refl refl e stay));
    };
    isometric = λ d i j b k. dist_as Link (omega arith) refl refl (f d i j (omega arith) k);
  }

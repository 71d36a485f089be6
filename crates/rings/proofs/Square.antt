-- The square is the one ring of its angle, and with a diagonal it has no ring of four. Assumes nothing.
use Rattle.std.proofs.Common.{◌≡◌, ℕ, zero, suc, ◌<◌, ◌⊎◌, List, [], ◌∷◌, length, get_or, sym, refl, ◌∙◌, subst, subst₂, inl, inr, arith}
use Rattle.std.proofs.lemmas.List.{ext_get_or}
use Rattle.mesh.specs.Listed.{In}
use Rattle.mesh.specs.Walk.{Walk}
use Rattle.mesh.specs.Exactly.{Many}
use Rattle.mesh.proofs.Walks.{one_step, ended}
use Rattle.rings.specs.Ahead.{Ahead, Next}
use Rattle.rings.specs.Closed.{Closed}
use Rattle.rings.specs.Ring.{Ring}
use Rattle.rings.specs.Standard.{Standard}
use Rattle.rings.specs.Square.{Side, square, Braced}
use Rattle.rings.specs.SquareLaws.{SquareLaws}
use Rattle.rings.proofs.Places.{different}
use Rattle.rings.proofs.Rounds.{along, walk_as}
use Rattle.rings.proofs.Gaps.{link_of}
use Rattle.rings.proofs.HalfWay.{HalvesAhead, ring_by_halves}
use Rattle.rings.proofs.RingCounts.{from_forms}
use Rattle.rings.proofs.Smallest.{triangle}

side_back : (a b : ℕ) → Side a b → Side b a
side_back a b (inl n) = inr n
side_back a b (inr n) = inl n

square_at : (d i : ℕ) → i < 4 → get_or square i d ≡ i
square_at d zero h = refl
square_at d (suc zero) h = refl
square_at d (suc (suc zero)) h = refl
square_at d (suc (suc (suc zero))) h = refl
square_at d (suc (suc (suc (suc i)))) h = absurd (omega arith)

square_closed : Closed Side square
square_closed = record { long = omega arith; linked = λ d i j n. subst₂ (λ a b. Side a b) (sym (square_at d i n.from)) (sym (square_at d j n.to)) (inl n) }

none_shorter : (i j m : ℕ) → Ahead 4 2 i j → m < 2 → Walk Side m i j → ⊥
none_shorter i j zero h b w = let e : i ≡ j = ended Side w refl in omega arith
none_shorter i j (suc zero) h b w = elim (link_of Side refl w) [ inl n ↦ omega arith | inr n ↦ omega arith ]
none_shorter i j (suc (suc m)) h b w = omega arith

square_halves : HalvesAhead Side square
square_halves d i j h = record {
  walk = along Side square square_closed d 2 i j h;
  fewest = λ m b w. none_shorter i j m h b (walk_as Side refl (square_at d i h.from) (square_at d j h.to) w);
}

square_ring : Ring Side square
square_ring = ring_by_halves Side side_back square square_closed square_halves

square_form : Standard Side 4 0 1 3 square
square_form = record { ring = square_ring; size = refl; first = refl; second = refl; last = refl }

-- a standard form has 2 at its third place
third : (c : List ℕ) → Standard Side 4 0 1 3 c → get_or c 2 0 ≡ 2
third c s =
    let z = s.size in
    let l : Side (get_or c 1 0) (get_or c 2 0) = s.ring.cycle.closed.linked 0 1 2 (record { from = omega arith; to = omega arith; round = inl refl }) in
    let differs : get_or c 0 0 ≡ get_or c 2 0 → ⊥ = different c s.ring.cycle.distinct 0 0 2 (omega arith) (omega arith) in
    at (get_or c 2 0) (subst (λ a. Side a (get_or c 2 0)) s.second l) (λ e. differs (s.first ∙ sym e))
  where
    at : (b : ℕ) → Side 1 b → (b ≡ 0 → ⊥) → b ≡ 2
    at b (inl n) h = omega arith
    at b (inr n) h = absurd (h (omega arith))

one_form : (c : List ℕ) → Standard Side 4 0 1 3 c → c ≡ square
one_form c s = ext_get_or 0 c square s.size every
  where
    every : (i : ℕ) → i < length c → get_or c i 0 ≡ get_or square i 0
    every zero h = s.first
    every (suc zero) h = s.second
    every (suc (suc zero)) h = third c s
    every (suc (suc (suc zero))) h = s.last
    every (suc (suc (suc (suc i)))) h = absurd (let z = s.size in omega arith)

square_forms : Many (Standard Side 4 0 1 3) 1
square_forms = record {
  which = square ∷ [];
  exactly = record { distinct = (λ i. i, tt); only = only; all = λ c s. inl (one_form c s) };
  count = refl;
}
  where
    only : (c : List ℕ) → In c (square ∷ []) → Standard Side 4 0 1 3 c
    only c (inl e) = subst (λ z. Standard Side 4 0 1 3 z) (sym e) square_form
    only c (inr i) = absurd i

braced_back : (a b : ℕ) → Braced a b → Braced b a
braced_back a b (inl s) = inl (side_back a b s)
braced_back a b (inr (inl e)) = inr (inr (e.1, e.0))
braced_back a b (inr (inr e)) = inr (inl (e.1, e.0))

on_corner : (a b : ℕ) → Braced a b → a < 4
on_corner a b (inl (inl n)) = n.from
on_corner a b (inl (inr n)) = n.to
on_corner a b (inr (inl e)) = let p = e.0 in omega arith
on_corner a b (inr (inr e)) = let p = e.0 in omega arith

-- only 1 and 3 have a corner that they are not linked to
unlinked : (a b : ℕ) → a < 4 → b < 4 → (a ≡ b → ⊥) → (Braced a b → ⊥) → (a ≡ 1) ⊎ (a ≡ 3)
unlinked zero zero h k ne far = absurd (ne refl)
unlinked zero (suc zero) h k ne far = absurd (far (inl (inl (record { from = omega arith; to = omega arith; round = inl refl }))))
unlinked zero (suc (suc zero)) h k ne far = absurd (far (inr (inl (refl, refl))))
unlinked zero (suc (suc (suc zero))) h k ne far = absurd (far (inl (inr (record { from = omega arith; to = omega arith; round = inr refl }))))
unlinked zero (suc (suc (suc (suc b)))) h k ne far = absurd (omega arith)
unlinked (suc zero) b h k ne far = inl refl
unlinked (suc (suc zero)) zero h k ne far = absurd (far (inr (inr (refl, refl))))
unlinked (suc (suc zero)) (suc zero) h k ne far = absurd (far (inl (inr (record { from = omega arith; to = omega arith; round = inl refl }))))
unlinked (suc (suc zero)) (suc (suc zero)) h k ne far = absurd (ne refl)
unlinked (suc (suc zero)) (suc (suc (suc zero))) h k ne far = absurd (far (inl (inl (record { from = omega arith; to = omega arith; round = inl refl }))))
unlinked (suc (suc zero)) (suc (suc (suc (suc b)))) h k ne far = absurd (omega arith)
unlinked (suc (suc (suc zero))) b h k ne far = inr refl
unlinked (suc (suc (suc (suc a)))) b h k ne far = absurd (omega arith)

module _ (c : List ℕ) (size : length c ≡ 4) (r : Ring Braced c) where
  on : (i j : ℕ) → Next 4 i j → get_or c i 0 < 4
  on i j n = on_corner (get_or c i 0) (get_or c j 0) (r.cycle.closed.linked 0 i j (record { from = let h = n.from in omega arith; to = let h = n.to in omega arith; round = elim n.round [ inl e ↦ inl e | inr e ↦ inr (omega arith) ] }))

  apart : (i j : ℕ) → i < j → j < 4 → get_or c i 0 ≡ get_or c j 0 → ⊥
  apart i j b h = different c r.cycle.distinct 0 i j b (omega arith)

  far : (i : ℕ) → i < 2 → Braced (get_or c i 0) (get_or c (suc (suc i)) 0) → ⊥
  far i h l = (r.isometric 0 i (suc (suc i)) (omega arith) (omega arith)).fewest 1 (omega arith) (one_step Braced l)

  pub none_of_four : ⊥
  none_of_four =
      let h0 = on 0 1 (record { from = omega arith; to = omega arith; round = inl refl }) in
      let h1 = on 1 2 (record { from = omega arith; to = omega arith; round = inl refl }) in
      let h2 = on 2 3 (record { from = omega arith; to = omega arith; round = inl refl }) in
      let h3 = on 3 0 (record { from = omega arith; to = omega arith; round = inr refl }) in
      let p = unlinked (get_or c 0 0) (get_or c 2 0) h0 h2 (apart 0 2 (omega arith) (omega arith)) (far 0 (omega arith)) in
      let q = unlinked (get_or c 2 0) (get_or c 0 0) h2 h0 (λ e. apart 0 2 (omega arith) (omega arith) (sym e)) (λ l. far 0 (omega arith) (braced_back (get_or c 2 0) (get_or c 0 0) l)) in
      let s = unlinked (get_or c 1 0) (get_or c 3 0) h1 h3 (apart 1 3 (omega arith) (omega arith)) (far 1 (omega arith)) in
      three (get_or c 0 0) (get_or c 2 0) (get_or c 1 0) p q s (apart 0 2 (omega arith) (omega arith)) (apart 0 1 (omega arith) (omega arith)) (apart 1 2 (omega arith) (omega arith))
    where
      three : (x y z : ℕ) → (x ≡ 1) ⊎ (x ≡ 3) → (y ≡ 1) ⊎ (y ≡ 3) → (z ≡ 1) ⊎ (z ≡ 3) → (x ≡ y → ⊥) → (x ≡ z → ⊥) → (z ≡ y → ⊥) → ⊥
      three x y z p q s f g h = omega arith

pub square_laws : SquareLaws
square_laws = record {
  ring = square_ring;
  counted = from_forms Side side_back 4 0 1 3 (λ e. omega arith) 1 square_forms;
  braced = none_of_four;
  half = triangle Braced 0 1 2 (no_zero, (no_one, (λ i. i, tt))) (inl (inl (record { from = omega arith; to = omega arith; round = inl refl }))) (inl (inl (record { from = omega arith; to = omega arith; round = inl refl }))) (inr (inr (refl, refl))) braced_back;
}
  where
    no_zero : In {J = ℕ} 0 (1 ∷ 2 ∷ []) → ⊥
    no_zero (inl e) = omega arith
    no_zero (inr (inl e)) = omega arith
    no_zero (inr (inr i)) = i

    no_one : In {J = ℕ} 1 (2 ∷ []) → ⊥
    no_one (inl e) = omega arith
    no_one (inr i) = i

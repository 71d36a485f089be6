-- Triangles, and squares with a diagonal, in any graph. Assumes nothing.
use Rattle.std.proofs.Common.{◌≡◌, ℕ, zero, suc, ◌<◌, [], ◌∷◌, get_or, sym, subst, arith}
use Rattle.mesh.specs.Walk.{Walk}
use Rattle.mesh.specs.Exactly.{Distinct}
use Rattle.mesh.proofs.Walks.{one_step, ended}
use Rattle.mesh.proofs.Lists.{one_place}
use Rattle.rings.specs.Ahead.{Next}
use Rattle.rings.specs.Closed.{Closed}
use Rattle.rings.specs.Ring.{Ring}
use Rattle.rings.specs.SmallLaws.{SmallLaws}
use Rattle.rings.proofs.HalfWay.{HalvesAhead, ring_by_halves}

module _ {J : Type 0} (Link : J → J → Type 0) where
  module _ (a b c : J) (distinct : Distinct (a ∷ b ∷ c ∷ [])) (ab : Link a b) (bc : Link b c) (ca : Link c a) where
    round_linked : (d : J) (i j : ℕ) → Next 3 i j → Link (get_or (a ∷ b ∷ c ∷ []) i d) (get_or (a ∷ b ∷ c ∷ []) j d)
    round_linked d zero j n = let e : j ≡ 1 = omega arith in subst (λ k. Link a (get_or (a ∷ b ∷ c ∷ []) k d)) (sym e) ab
    round_linked d (suc zero) j n = let e : j ≡ 2 = omega arith in subst (λ k. Link b (get_or (a ∷ b ∷ c ∷ []) k d)) (sym e) bc
    round_linked d (suc (suc zero)) j n = let e : j ≡ 0 = omega arith in subst (λ k. Link c (get_or (a ∷ b ∷ c ∷ []) k d)) (sym e) ca
    round_linked d (suc (suc (suc i))) j n = absurd (let h = n.from in omega arith)

    round_closed : Closed Link (a ∷ b ∷ c ∷ [])
    round_closed = record { long = omega arith; linked = round_linked }

    round_halves : HalvesAhead Link (a ∷ b ∷ c ∷ [])
    round_halves d i j h = record { walk = one_step Link (round_linked d i j h); fewest = none }
      where
        none : (m : ℕ) → m < 1 → Walk Link m (get_or (a ∷ b ∷ c ∷ []) i d) (get_or (a ∷ b ∷ c ∷ []) j d) → ⊥
        none m s w =
            let e = ended Link w (omega arith) in
            let f : i ≡ j = one_place (a ∷ b ∷ c ∷ []) distinct i j d h.from h.to e in
            omega arith

    pub triangle : (back : (a b : J) → Link a b → Link b a) → Ring Link (a ∷ b ∷ c ∷ [])
    triangle back = ring_by_halves Link back (a ∷ b ∷ c ∷ []) round_closed round_halves

  pub small_laws : (back : (a b : J) → Link a b → Link b a) → SmallLaws Link
  small_laws back = record {
    triangle = λ a b c s ab bc ca. triangle a b c s ab bc ca back;
    diagonal = λ a b c d l r. (r.isometric a 0 2 (omega arith) (omega arith)).fewest 1 (omega arith) (one_step Link l);
    other_diagonal = λ a b c d l r. (r.isometric a 1 3 (omega arith) (omega arith)).fewest 1 (omega arith) (one_step Link l);
  }

-- How searches in the records of a pool go on.
use Rattle.std.proofs.Common.{◌≡◌, ℕ, ◌⊎◌, List, Some, Equal, sym, refl, ap, ◌∙◌, subst, inl, inr, arith}
use Rattle.std.specs.List.{slice_get}
use Rattle.label.specs.Order.{Order}
use Rattle.growth.specs.Entry.{Sight}
use Rattle.growth.specs.SightOrder.{sight_order}
use Rattle.survey.specs.Found.{sight_of}
use Rattle.survey.specs.Searching.{Leads, Goes, lesser, greater, Comes, begins, goes}
use Rattle.survey.specs.Asking.{side_of, link_of, AlongClause, HasIt, Stops, TurnClause}
use Rattle.survey.specs.declared.search.Side.{Side}
use Rattle.survey.specs.declared.search.Side.TheVariants as side
use Rattle.survey.specs.declared.search.Turn.{Turn}
use Rattle.survey.specs.declared.search.Turn.TheVariants as turn
use Rattle.survey.specs.declared.records.Record.{Record}

module _ {L M : Type 0} (O : Order M) (stands : L → M) (used : ℕ) (pool : List (Record L)) (x : Sight M) where
  -- a search that is at what it looks for compares as equal
  equal_there : (i : ℕ) (r : Record L) → slice_get pool i ≡ Some r → HasIt O stands used pool x i → (sight_order O).cmp x (sight_of stands r) ≡ Equal
  equal_there i r read h =
      let same : r ≡ h.what = let e = h.read in cc in
      ap (λ (q : Record L). (sight_order O).cmp x (sight_of stands q)) same ∙ ap ((sight_order O).cmp x) h.same ∙ (sight_order O).itself x

  -- and goes no further
  pub there_ends : (i j : ℕ) → HasIt O stands used pool x i → Goes O stands used pool x i j → ⊥
  there_ends i j h (lesser r read c e l) = let q = equal_there i r read h in let z : ◌≡◌ {A = ℕ} 0 1 = cc in omega arith
  there_ends i j h (greater r read c e l) = let q = equal_there i r read h in let z : ◌≡◌ {A = ℕ} 0 1 = cc in omega arith

  -- a search goes on in one way
  pub goes_once : (i j k : ℕ) → Goes O stands used pool x i j → Goes O stands used pool x i k → j ≡ k
  goes_once i j k (lesser r read c e l) (lesser q back d f m) = let same : r ≡ q = cc in e ∙ ap (λ (w : Record L). w.below) same ∙ sym f
  goes_once i j k (lesser r read c e l) (greater q back d f m) = let same : r ≡ q = cc in absurd (let z : ◌≡◌ {A = ℕ} 0 1 = cc in let n : ⊥ = omega arith in n)
  goes_once i j k (greater r read c e l) (lesser q back d f m) = let same : r ≡ q = cc in absurd (let z : ◌≡◌ {A = ℕ} 0 1 = cc in let n : ⊥ = omega arith in n)
  goes_once i j k (greater r read c e l) (greater q back d f m) = let same : r ≡ q = cc in e ∙ ap (λ (w : Record L). w.above) same ∙ sym f

  -- a search begins with its first step
  pub first_step : (i k : ℕ) → Comes O stands used pool x i k → (i ≡ k) ⊎ ((j : ℕ) × Goes O stands used pool x i j × Comes O stands used pool x j k)
  first_step i k begins = inl refl
  first_step i k (goes {i = h} c s) =
      elim (first_step i h c) [
        | inl e ↦ inr (k, subst (λ (w : ℕ). Goes O stands used pool x w k) (sym e) s, begins)
        | inr m ↦ inr (m.0, m.1, goes m.2 s)
      ]

  -- where the search goes on from i to j, what it comes to from i it comes to from j, unless it is there
  pub go_on : (i j k : ℕ) → Goes O stands used pool x i j → HasIt O stands used pool x k → Comes O stands used pool x i k → Comes O stands used pool x j k
  go_on i j k s h c =
      elim (first_step i k c) [
        | inl e ↦ absurd (there_ends i j (subst (λ (w : ℕ). HasIt O stands used pool x w) (sym e) h) s)
        | inr m ↦ subst (λ (w : ℕ). Comes O stands used pool x w k) (goes_once i m.0 j m.1 s) m.2
      ]

  -- where it stops there is nothing further
  pub stopped_there : (i : ℕ) (at : Side) (k : ℕ) → Stops O stands used pool x i at → HasIt O stands used pool x k → Comes O stands used pool x i k → ⊥
  stopped_there i at k s h c =
      elim (first_step i k c) [
        | inl e ↦
            let q = equal_there i s.what s.read (subst (λ (w : ℕ). HasIt O stands used pool x w) (sym e) h) in
            apart at (sym s.side ∙ q)
        | inr m ↦ no_step at s m.0 m.1
      ]
    where
      apart : (b : Side) → side_of b ≡ Equal → ⊥
      apart side.Greater e = let z : ◌≡◌ {A = ℕ} 0 1 = cc in omega arith
      apart side.Lesser e = let z : ◌≡◌ {A = ℕ} 0 1 = cc in omega arith

      no_step : (b : Side) → Stops O stands used pool x i b → (j : ℕ) → Goes O stands used pool x i j → ⊥
      no_step side.Greater t j (lesser r read d e l) = let same : r ≡ t.what = let w = t.read in cc in let g = t.side in let z : ◌≡◌ {A = ℕ} 0 1 = cc in omega arith
      no_step side.Greater t j (greater r read d e l) = let same : r ≡ t.what = let w = t.read in cc in t.void (subst (λ (n : ℕ). Leads used i n) (e ∙ ap (λ (w : Record L). w.above) same) l)
      no_step side.Lesser t j (lesser r read d e l) = let same : r ≡ t.what = let w = t.read in cc in t.void (subst (λ (n : ℕ). Leads used i n) (e ∙ ap (λ (w : Record L). w.below) same) l)
      no_step side.Lesser t j (greater r read d e l) = let same : r ≡ t.what = let w = t.read in cc in let g = t.side in let z : ◌≡◌ {A = ℕ} 0 1 = cc in omega arith

  -- how a search goes on along the link of its side
  pub turned : (i : ℕ) (at : Side) (r : Record L) → slice_get pool i ≡ Some r → (sight_order O).cmp x (sight_of stands r) ≡ side_of at → (t : Turn) → AlongClause used i (link_of at r) at t → TurnClause O stands used pool x i t
  turned i at r read c turn.Here a = absurd a
  turned i side.Greater r read c (turn.On j) a =
      let l : Leads used i j = subst (λ (n : ℕ). Leads used i n) (sym a.0) a.1 in
      (greater r read c a.0 l, l.0, l.1)
  turned i side.Lesser r read c (turn.On j) a =
      let l : Leads used i j = subst (λ (n : ℕ). Leads used i n) (sym a.0) a.1 in
      (lesser r read c a.0 l, l.0, l.1)
  turned i at r read c (turn.Stop b) a =
      subst (λ (w : Side). Stops O stands used pool x i w) (sym a.0) (record { what = r; read = read; side = c; void = a.1 })

-- One record more in a pool: every search comes where it came, and the search for what is new comes to it.
use Rattle.std.proofs.Common.{◌≡◌, ℕ, ◌+◌, ◌<◌, ◌≤◌, List, [], ◌∷◌, ◌++◌, map, length, take, set, Some, sym, refl, ap, ◌∙◌, subst, inl, inr, arith}
use Rattle.std.specs.List.{slice_get}
use Rattle.std.proofs.lemmas.Bool.{cases_eq}
use Rattle.std.proofs.lemmas.Option.{slice_get_within}
use Rattle.std.proofs.lemmas.List.{take-map, map-set, length-set, take-set-le, take_more_set, map_push, length-map, length-take-le}
use Rattle.label.specs.Order.{Order}
use Rattle.mesh.specs.Listed.{In}
use Rattle.mesh.proofs.Lists.{from_map, in_map}
use Rattle.growth.specs.Entry.{Sight, Entry, sights}
use Rattle.growth.specs.SightOrder.{sight_order}
use Rattle.survey.specs.Found.{sight_of, entry_of, found}
use Rattle.survey.specs.Searching.{Leads, Goes, lesser, greater, Comes, begins, goes, Searchable}
use Rattle.survey.specs.Asking.{side_of, link_of, HasIt, Stops, Missed}
use Rattle.survey.specs.Stepping.{with_link, Linked, Kept}
use Rattle.survey.specs.declared.records.Record.{Record}
use Rattle.survey.specs.declared.search.Place.{Place}
use Rattle.survey.specs.declared.search.Side.{Side}
use Rattle.survey.specs.declared.search.Side.TheVariants as side
use Rattle.survey.proofs.Places.{nth_set_same, nth_set_other, nth_there, set_there, nth_map, nth_take, in_nth, nth_in}

module _ {L M : Type 0} (O : Order M) (stands : L → M) where
  -- a search only goes up, and stays within the records in use
  pub comes_up : (used : ℕ) (pool : List (Record L)) (x : Sight M) (root k : ℕ) → Comes O stands used pool x root k → root ≤ k
  comes_up used pool x root k begins = omega arith
  comes_up used pool x root k (goes {i = i} c (lesser r read d e l)) = let h = comes_up used pool x root i c in let m = l.0 in omega arith
  comes_up used pool x root k (goes {i = i} c (greater r read d e l)) = let h = comes_up used pool x root i c in let m = l.0 in omega arith

  pub comes_inside : (used : ℕ) (pool : List (Record L)) (x : Sight M) (root k : ℕ) → root < used → Comes O stands used pool x root k → k < used
  comes_inside used pool x root k h begins = h
  comes_inside used pool x root k h (goes c (lesser r read d e l)) = l.1
  comes_inside used pool x root k h (goes c (greater r read d e l)) = l.1

  -- the record i of another pool has the same sight, and the same link wherever one counted
  pub record Alike (w : ℕ) (pool' : List (Record L)) (i : ℕ) (r : Record L) : Type 0 where
    pub now_there : Record L
    pub read : slice_get pool' i ≡ Some now_there
    pub same_sight : sight_of stands now_there ≡ sight_of stands r
    pub same_below : Leads w i r.below → now_there.below ≡ r.below
    pub same_above : Leads w i r.above → now_there.above ≡ r.above

  -- where the records in use are alike, searches come where they came
  pub comes_kept : (w w' : ℕ) (pool pool' : List (Record L)) → w ≤ w' → ((i : ℕ) (r : Record L) → i < w → slice_get pool i ≡ Some r → Alike w pool' i r) →
      (x : Sight M) (root k : ℕ) → root < w → Comes O stands w pool x root k → Comes O stands w' pool' x root k
  comes_kept w w' pool pool' le alike x root k h begins = begins
  comes_kept w w' pool pool' le alike x root k h (goes {i = i} c (lesser r read d e l)) =
      let a = alike i r (comes_inside w pool x root i h c) read in
      let q : k ≡ a.now_there.below = e ∙ sym (a.same_below (subst (λ (n : ℕ). Leads w i n) e l)) in
      goes (comes_kept w w' pool pool' le alike x root i h c)
      (lesser a.now_there a.read (ap ((sight_order O).cmp x) a.same_sight ∙ d) q (l.0, (let m = l.1 in omega arith)))
  comes_kept w w' pool pool' le alike x root k h (goes {i = i} c (greater r read d e l)) =
      let a = alike i r (comes_inside w pool x root i h c) read in
      let q : k ≡ a.now_there.above = e ∙ sym (a.same_above (subst (λ (n : ℕ). Leads w i n) e l)) in
      goes (comes_kept w w' pool pool' le alike x root i h c)
      (greater a.now_there a.read (ap ((sight_order O).cmp x) a.same_sight ∙ d) q (l.0, (let m = l.1 in omega arith)))

  -- so a front that could be searched can be searched
  pub searchable_kept : (w w' : ℕ) (pool pool' : List (Record L)) → w ≤ w' → w ≤ length pool → ((i : ℕ) (r : Record L) → i < w → slice_get pool i ≡ Some r → Alike w pool' i r) →
      Searchable O stands w pool → (k : ℕ) (r : Record L) → k < w → slice_get pool' k ≡ Some r → Comes O stands w' pool' (sight_of stands r) r.centre k
  searchable_kept w w' pool pool' le long alike s k r h read =
      let old = nth_there pool k (omega arith) in
      let a = alike k old.0 h old.1 in
      let same : sight_of stands r ≡ sight_of stands old.0 =
      (let e : r ≡ a.now_there = let f = a.read in cc in ap (sight_of stands) e ∙ a.same_sight) in
      let c = s k old.0 h old.1 in
      let up = comes_up w pool (sight_of stands old.0) old.0.centre k c in
      subst (λ (t : Sight M). Comes O stands w' pool' t t.centre k) (sym same)
      (comes_kept w w' pool pool' le alike (sight_of stands old.0) old.0.centre k (omega arith) c)

  module _ (used : ℕ) (pool pool' : List (Record L)) (x : Sight M) (root : ℕ) (place : Place) (e : Record L) (inside : place.under < used) (stops : Stops O stands used pool x place.under place.side) (linked : Linked used pool place e pool') (room : used < length pool) where
    -- what the record under which it is linked is, as the search that stopped there read it
    parent_is : linked.parent ≡ stops.what
    parent_is = let f = linked.read in let h = stops.read in cc

    elsewhere : (i : ℕ) → (i ≡ place.under → ⊥) → i < used → slice_get pool' i ≡ slice_get pool i
    elsewhere i n h =
        ap (λ (q : List (Record L)). slice_get q i) linked.wrote
        ∙ nth_set_other (set pool place.under (with_link place.side used linked.parent)) used i e (λ u. let z : ⊥ = omega arith in z)
        ∙ nth_set_other pool place.under i (with_link place.side used linked.parent) n

    at_parent : slice_get pool' place.under ≡ Some (with_link place.side used linked.parent)
    at_parent =
        ap (λ (q : List (Record L)). slice_get q place.under) linked.wrote
        ∙ nth_set_other (set pool place.under (with_link place.side used linked.parent)) used place.under e (λ u. let z : ⊥ = omega arith in z)
        ∙ nth_set_same pool place.under (with_link place.side used linked.parent) (slice_get_within pool place.under linked.parent linked.read)

    at_new : slice_get pool' used ≡ Some e
    at_new =
        ap (λ (q : List (Record L)). slice_get q used) linked.wrote
        ∙ nth_set_same (set pool place.under (with_link place.side used linked.parent)) used e (let k = length-set pool place.under (with_link place.side used linked.parent) in omega arith)

    void : (w : ℕ) → w ≤ used → Leads w place.under (link_of place.side linked.parent) → ⊥
    void w le l =
        let m = l.1 in
        stops.void (subst (λ (r : Record L). Leads used place.under (link_of place.side r)) parent_is (l.0, omega arith))

    -- the link that is written led nowhere, so nothing that counted is changed
    alike_linked : (w : ℕ) → w ≤ used → (i : ℕ) (r : Record L) → i < w → slice_get pool i ≡ Some r → Alike w pool' i r
    alike_linked w le i r h read =
        elim (cases_eq i place.under) [
          | inl q ↦
              let s : linked.parent ≡ r = let f : slice_get pool i ≡ Some linked.parent = ap (slice_get pool) q ∙ linked.read in cc in
              subst (λ (n : ℕ). Alike w pool' n r) (sym q) (subst (λ (t : Record L). Alike w pool' place.under t) s (changed place.side (void w le) at_parent))
          | inr n ↦ record { now_there = r; read = elsewhere i n (omega arith) ∙ read; same_sight = refl; same_below = λ l. refl; same_above = λ l. refl }
        ]
      where
        changed : (b : Side) → (Leads w place.under (link_of b linked.parent) → ⊥) → slice_get pool' place.under ≡ Some (with_link b used linked.parent) → Alike w pool' place.under linked.parent
        changed side.Greater v e = record { now_there = with_link side.Greater used linked.parent; read = e; same_sight = refl; same_below = λ l. refl; same_above = λ l. absurd (v l) }
        changed side.Lesser v e = record { now_there = with_link side.Lesser used linked.parent; read = e; same_sight = refl; same_below = λ l. absurd (v l); same_above = λ l. refl }

    same_entry : (b : Side) → entry_of stands (with_link b used linked.parent) ≡ entry_of stands linked.parent
    same_entry side.Greater = refl
    same_entry side.Lesser = refl

    -- the other records stand for what they stood for
    entries_parent : map (entry_of stands) (set pool place.under (with_link place.side used linked.parent)) ≡ map (entry_of stands) pool
    entries_parent =
        map-set (entry_of stands) pool place.under (with_link place.side used linked.parent)
        ∙ ap (set (map (entry_of stands) pool) place.under) (same_entry place.side)
        ∙ set_there (map (entry_of stands) pool) place.under (entry_of stands linked.parent) (nth_map (entry_of stands) pool place.under linked.parent linked.read)

    front_parent : (w : ℕ) → found stands w (set pool place.under (with_link place.side used linked.parent)) ≡ found stands w pool
    front_parent w =
        sym (take-map (entry_of stands) w (set pool place.under (with_link place.side used linked.parent)))
        ∙ ap (take w) entries_parent
        ∙ take-map (entry_of stands) w pool

    entries_kept : (w : ℕ) → w ≤ used → found stands w pool' ≡ found stands w pool
    entries_kept w le =
        ap (found stands w) linked.wrote
        ∙ ap (map (entry_of stands)) (take-set-le w (set pool place.under (with_link place.side used linked.parent)) used e le)
        ∙ front_parent w

    pub linked_kept : Kept O stands used pool pool'
    linked_kept = record {
      entries = entries_kept;
      searches = λ w le s. searchable_kept w w pool pool' (omega arith) (omega arith) (alike_linked w le) s;
    }

    -- the found list has one entry more, the last
    pub linked_found : found stands (used + 1) pool' ≡ found stands used pool ++ (entry_of stands e ∷ [])
    linked_found =
        let q = set pool place.under (with_link place.side used linked.parent) in
        ap (found stands (used + 1)) linked.wrote
        ∙ ap (map (entry_of stands)) (take_more_set q used e (let k = length-set pool place.under (with_link place.side used linked.parent) in omega arith))
        ∙ map_push (entry_of stands) (take used q) e
        ∙ ap (λ (es : List (Entry M)). es ++ (entry_of stands e ∷ [])) (front_parent used)

    -- and the search for it comes to it
    pub linked_searchable : Comes O stands used pool x root place.under → root < used → x ≡ sight_of stands e → root ≡ e.centre → Searchable O stands used pool → Searchable O stands (used + 1) pool'
    linked_searchable comes from same at s k r h read =
        elim (cases_eq k used) [
          | inl q ↦
              let new : r ≡ e = let f : slice_get pool' used ≡ Some r = ap (slice_get pool') (sym q) ∙ read in let g = at_new in cc in
              subst (λ (n : ℕ). Comes O stands (used + 1) pool' (sight_of stands r) r.centre n) (sym q)
              (subst (λ (t : Record L). Comes O stands (used + 1) pool' (sight_of stands t) t.centre used) (sym new)
              (subst (λ (t : Sight M). Comes O stands (used + 1) pool' t e.centre used) same
              (subst (λ (n : ℕ). Comes O stands (used + 1) pool' x n used) at (goes (comes_kept used (used + 1) pool pool' (omega arith) (alike_linked used (omega arith)) x root place.under from comes) (last_step place.side at_parent (ap (λ (t : Record L). (sight_order O).cmp x (sight_of stands t)) parent_is ∙ stops.side))))))
          | inr n ↦ searchable_kept used (used + 1) pool pool' (omega arith) (omega arith) (alike_linked used (omega arith)) s k r (let z : k < used = omega arith in z) read
        ]
      where
        last_step : (b : Side) → slice_get pool' place.under ≡ Some (with_link b used linked.parent) → (sight_order O).cmp x (sight_of stands linked.parent) ≡ side_of b → Goes O stands (used + 1) pool' x place.under used
        last_step side.Greater read c = greater (with_link side.Greater used linked.parent) read c refl (inside, omega arith)
        last_step side.Lesser read c = lesser (with_link side.Lesser used linked.parent) read c refl (inside, omega arith)

  -- what a search misses is not in a found list that can be searched
  pub missed_new : (used : ℕ) (pool : List (Record L)) (x : Sight M) (p : Place) → used ≤ length pool → Missed O stands used pool x x.centre p → Searchable O stands used pool → In x (sights (found stands used pool)) → ⊥
  missed_new used pool x p long m s i =
      let a = from_map (λ (e : Entry M). e.sight) x (found stands used pool) i in
      let b = from_map (entry_of stands) a.0 (take used pool) a.1 in
      let k = in_nth b.0 (take used pool) b.1 in
      let few : k.0 < used = let h = k.1 in let f = length-take-le used pool long in omega arith in
      let read : slice_get pool k.0 ≡ Some b.0 = sym (nth_take used pool k.0 few) ∙ k.2 in
      let same : sight_of stands b.0 ≡ x = sym (a.2 ∙ ap (λ (e : Entry M). e.sight) b.2) in
      m.nowhere k.0 (record { what = b.0; read = read; same = same })
      (subst (λ (t : Sight M). Comes O stands used pool t t.centre k.0) same (s k.0 b.0 few read))

  -- what it finds is there
  pub asked_there : (used : ℕ) (pool : List (Record L)) (x : Sight M) (k : ℕ) → k < used → HasIt O stands used pool x k → In x (sights (found stands used pool))
  asked_there used pool x k h a =
      subst (λ (t : Sight M). In t (sights (found stands used pool))) a.same
      (in_map (λ (e : Entry M). e.sight) (entry_of stands a.what) (found stands used pool)
      (in_map (entry_of stands) a.what (take used pool) (nth_in (take used pool) k a.what (nth_take used pool k h ∙ a.read))))

-- the found list has an entry for each record in use
pub found_count : {L M : Type 0} (stands : L → M) (used : ℕ) (pool : List (Record L)) → used ≤ length pool → length (found stands used pool) ≡ used
found_count stands used pool h = length-map (take used pool) (entry_of stands) ∙ length-take-le used pool h

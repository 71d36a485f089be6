-- A sealed survey: the homes of the nodes in the first records.
use Rattle.std.proofs.Common.{◌≡◌, ℕ, zero, suc, ◌+◌, ◌<◌, ◌≤◌, List, [], ◌∷◌, ◌++◌, map, length, take, set, Some, sym, ap, ◌∙◌, subst, arith}
use Rattle.std.specs.List.{range_with_len, slice_get}
use Rattle.std.proofs.lemmas.List.{take_more_set, take-append-le, map_push}
use Rattle.std.proofs.lemmas.List.FromFn.{map-range_with_len_more}
use Rattle.label.specs.Group.{Group}
use Rattle.label.specs.Order.{Order}
use Rattle.mesh.specs.Drawn.{Drawn}
use Rattle.mesh.specs.Junction.{home}
use Rattle.net.specs.Model.{net_of}
use Rattle.net.specs.declared.records.Line.{Line}
use Rattle.net.specs.declared.drafts.Draft.{Draft}
use Rattle.growth.specs.Entry.{Entry, about, at_distance}
use Rattle.growth.specs.Surveyed.{Surveyed}
use Rattle.growth.proofs.Growths.{sealed}
use Rattle.survey.specs.Found.{entry_of, sight_of, found}
use Rattle.survey.specs.Searching.{Comes, begins, Searchable}
use Rattle.survey.specs.Marks.{mark_of}
use Rattle.survey.specs.Clauses.{Sealed}
use Rattle.survey.specs.declared.records.Record.{Record}
use Rattle.survey.specs.declared.surveys.Survey.{Survey}
use Rattle.survey.proofs.Places.{nth_map, nth_take}

-- the entry of the home of v about itself
abbrev pub home_entry : {M : Type 0} → Group M → ℕ → Entry M
home_entry G v = at_distance 0 (about v (home G v))

-- what stands at a place of the numbers from a on
nth_counting : {X : Type 0} (f : ℕ → X) (a n i : ℕ) → i < n → slice_get (map f (range_with_len a n)) i ≡ Some (f (a + i))
nth_counting f a zero i h = absurd (let z : ⊥ = omega arith in z)
nth_counting f a (suc n) zero h = ap (λ k. Some (f k)) (let e : a ≡ a + 0 = omega arith in e)
nth_counting f a (suc n) (suc i) h = nth_counting f (a + 1) n i (omega arith) ∙ ap (λ k. Some (f k)) (let e : a + 1 + i ≡ a + suc i = omega arith in e)

module _ {L M : Type 0} (G : Group M) (O : Order M) (stands : L → M) where
  -- one home more
  pub homes_more : (pool : List (Record L)) (v : ℕ) (r : Record L) → v < length pool → entry_of stands r ≡ home_entry G v →
      found stands v pool ≡ map (home_entry G) (range_with_len 0 v) → found stands (v + 1) (set pool v r) ≡ map (home_entry G) (range_with_len 0 (v + 1))
  homes_more pool v r h e before =
      ap (map (entry_of stands)) (take_more_set pool v r h)
      ∙ map_push (entry_of stands) (take v pool) r
      ∙ ap (λ (es : List (Entry M)). es ++ (entry_of stands r ∷ [])) before
      ∙ ap (λ (x : Entry M). map (home_entry G) (range_with_len 0 v) ++ (x ∷ [])) e
      ∙ sym (map-range_with_len_more (home_entry G) 0 v v (omega arith))

  -- the homes stand before the other records
  pub homes_first : (n m : ℕ) (homes rest : List (Record L)) → length homes ≡ m → m ≡ n → found stands m homes ≡ map (home_entry G) (range_with_len 0 m) → found stands n (homes ++ rest) ≡ map (home_entry G) (range_with_len 0 n)
  homes_first n m homes rest long e f =
      subst (λ (k : ℕ). found stands k (homes ++ rest) ≡ map (home_entry G) (range_with_len 0 k)) e
      (ap (map (entry_of stands)) (take-append-le m homes rest (omega arith)) ∙ f)

  -- the search for a home begins at it
  pub homes_searchable : (pool : List (Record L)) (n : ℕ) → found stands n pool ≡ map (home_entry G) (range_with_len 0 n) → Searchable O stands n pool
  homes_searchable pool n e k r h read =
      let there : slice_get (found stands n pool) k ≡ Some (entry_of stands r) = nth_map (entry_of stands) (take n pool) k r (nth_take n pool k h ∙ read) in
      let which = nth_counting (home_entry G) 0 n k h in
      let same : entry_of stands r ≡ home_entry G (0 + k) = let f = ap (λ (es : List (Entry M)). slice_get es k) e in cc in
      let centre : r.centre ≡ k = ap (λ (x : Entry M). x.sight.centre) same ∙ (let z : 0 + k ≡ k = omega arith in z) in
      subst (λ (i : ℕ). Comes O stands n pool (sight_of stands r) i k) (sym centre) begins

  -- the survey of a drawn net owns its memory
  pub seal_done : (d : Draft) (list : List (Line L)) (pool pool' : List (Record L)) (s : Survey) → length list ≡ d.room → length pool' ≡ length pool →
      s.draft ≡ d → s.radius ≡ 0 → s.used ≡ d.nodes → s.room ≡ length pool → ((v : ℕ) → v ≤ d.nodes → mark_of s.marks 0 v ≡ v) →
      found stands d.nodes pool' ≡ map (home_entry G) (range_with_len 0 d.nodes) → Sealed G O stands d list pool s pool'
  seal_done d list pool pool' s own long draft_is radius_is used_is room_is marks homes = record {
    draft = draft_is;
    radius = radius_is;
    room = room_is;
    long = long;
    owns = λ drawn. record {
      own_list = own ∙ sym (ap (λ (e : Draft). e.room) draft_is);
      own_pool = long ∙ sym room_is;
      drawn = subst (λ (e : Draft). Drawn G (net_of stands e list)) (sym draft_is) drawn;
      searchable = subst (λ (n : ℕ). Searchable O stands n pool') (sym used_is) (homes_searchable pool' d.nodes homes);
      surveyed =
          subst (λ (e : Draft). Surveyed G (net_of stands e list) s.radius (mark_of s.marks) (found stands s.used pool')) (sym draft_is)
          (subst (λ (k : ℕ). Surveyed G (net_of stands d list) k (mark_of s.marks) (found stands s.used pool')) (sym radius_is)
          (subst (λ (n : ℕ). Surveyed G (net_of stands d list) 0 (mark_of s.marks) (found stands n pool')) (sym used_is)
          (sealed G (net_of stands d list) (mark_of s.marks) (found stands d.nodes pool') homes marks)));
    };
  }

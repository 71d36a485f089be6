-- The answers of growing.
use Rattle.std.proofs.Common.{◌≡◌, ℕ, suc, ◌+◌, ◌<◌, ◌≤◌, true, false, List, [], length, slice_index, set, Ok, Err, sym, refl, ap, ◌∙◌, subst, inl, inr, add-one, arith}
use Rattle.std.proofs.lemmas.Bool.{cases_lt, false≢true}
use Rattle.std.proofs.lemmas.List.{get_or-set_same, get_or-set_other}
use Rattle.label.specs.Group.{Group}
use Rattle.label.specs.Order.{Order}
use Rattle.mesh.specs.Drawn.{Drawn}
use Rattle.net.specs.Model.{net_of}
use Rattle.net.specs.Verdict.{First, here, later}
use Rattle.net.specs.declared.records.Line.{Line}
use Rattle.net.specs.declared.drafts.Draft.{Draft}
use Rattle.growth.specs.Entry.{Entry}
use Rattle.growth.specs.Surveyed.{Surveyed}
use Rattle.growth.proofs.Growths.{grown}
use Rattle.growth.proofs.Totals.{balls_found, surveyed_total, overfull_total}
use Rattle.survey.specs.Found.{found}
use Rattle.survey.specs.Searching.{Searchable}
use Rattle.survey.specs.Stepping.{Kept}
use Rattle.survey.specs.Marks.{mark_of}
use Rattle.survey.specs.Owns.{Owns}
use Rattle.survey.specs.Rules.{Strange, GrowBreaks, grow_rules}
use Rattle.survey.specs.Clauses.{GrowClause}
use Rattle.survey.specs.Unfolding.{Unfolded, RanOut}
use Rattle.survey.specs.declared.records.Record.{Record}
use Rattle.survey.specs.declared.surveys.Survey.{Survey}
use Rattle.survey.specs.declared.surveys.Frontier.{Frontier}
use Rattle.survey.specs.declared.refusals.SurveyRefusal.{SurveyRefusal}
use Rattle.survey.specs.declared.refusals.SurveyRefusal.TheVariants as refusal
use Rattle.survey.proofs.Tested.{lent_known}
use Rattle.survey.proofs.Trees.{found_count}

module _ {L M : Type 0} (G : Group M) (O : Order M) (stands : L → M) (s : Survey) (list : List (Line L)) (pool : List (Record L)) where
  -- own memory has the lengths of opening and sealing
  pub not_strange : Owns G O stands s list pool → Strange s (length list) (length pool) → ⊥
  not_strange o = lent_known s (length list) (length pool) (o.own_list, o.own_pool)

  -- refused before anything is written
  pub grow_early : (e : SurveyRefusal) → First (GrowBreaks s (length list) (length pool) false) e grow_rules → (Owns G O stands s list pool → s.radius < 16 → ⊥) → GrowClause G O stands s list pool (Err e) s pool
  grow_early e f never = record {
    short = false;
    answer = (f, refl);
    long = refl;
    untouched = λ t. refl;
    at_most = λ h. refl;
    room = λ o h. absurd (never o h);
    owns = λ o. o;
  }

  module _ (lent : (length list ≡ s.draft.room) × (length pool ≡ s.room)) (low : s.radius < 16) (pool' : List (Record L)) (long : length pool' ≡ length pool) where
    known : Strange s (length list) (length pool) → ⊥
    known = lent_known s (length list) (length pool) lent

    high : 16 ≤ s.radius → ⊥
    high h = omega arith

    -- the records ran out
    pub grow_short : Kept O stands s.used pool pool' → (Searchable O stands s.used pool → RanOut G O stands s list pool) → GrowClause G O stands s list pool (Err refusal.PoolFull) s pool'
    grow_short kept out = record {
      short = true;
      answer = (later known (later high (here refl)), refl);
      long = long;
      untouched = λ t. absurd (known t);
      at_most = λ h. absurd (high h);
      room = λ o h.
          let net = net_of stands s.draft list in
          let b = balls_found O G net (suc s.radius) in
          let r = out o.searchable in
          (b.0, b.1, overfull_total O G net s.radius (mark_of s.marks) (found stands s.used pool) o.surveyed r.node r.next r.held r.growing r.is_node (length pool) r.overfull b.0 b.1);
      owns = λ o. record {
        own_list = o.own_list;
        own_pool = long ∙ o.own_pool;
        drawn = o.drawn;
        searchable = kept.searches s.used (omega arith) o.searchable;
        surveyed = subst (λ (es : List (Entry M)). Surveyed G (net_of stands s.draft list) s.radius (mark_of s.marks) es) (sym (kept.entries s.used (omega arith))) o.surveyed;
      };
    }

    module _ (f : Frontier) (u : Unfolded G O stands s list pool s.draft.nodes f pool') (marked : length s.marks ≡ 17) where
      -- the marks with the row of the next radius
      abbrev pub marks_then : List (List ℕ)
      marks_then = set s.marks (s.radius + 1) f.marks

      row_next : (k : ℕ) → k ≡ s.radius + 1 → (v : ℕ) → mark_of marks_then k v ≡ slice_index f.marks v
      row_next k e v = ap (λ (i : ℕ). mark_of marks_then i v) e ∙ ap (λ (row : List ℕ). slice_index row v) (get_or-set_same s.marks (s.radius + 1) f.marks [] (omega arith))

      row_before : (k v : ℕ) → k ≤ s.radius → mark_of marks_then k v ≡ mark_of s.marks k v
      row_before k v h = ap (λ (row : List ℕ). slice_index row v) (get_or-set_other s.marks (s.radius + 1) k f.marks [] (λ q. let z : ⊥ = omega arith in z))

      -- the marks of all radii ascend, within the records in use
      pub frontier_ascend : (k v : ℕ) → k ≤ s.radius + 1 → v < s.draft.nodes → mark_of marks_then k v ≤ mark_of marks_then k (suc v)
      frontier_ascend k v h l =
          elim (cases_lt k (s.radius + 1)) [
            | inl b ↦ let p = row_before k v (omega arith) in let q = row_before k (suc v) (omega arith) in let a = s.ascend k v (omega arith) l in omega arith
            | inr b ↦ let p = row_next k (omega arith) v in let q = row_next k (omega arith) (suc v) in let a = u.ordered v l in omega arith
          ]

      pub frontier_inside : (k v : ℕ) → k ≤ s.radius + 1 → v ≤ s.draft.nodes → mark_of marks_then k v ≤ f.used
      frontier_inside k v h l =
          elim (cases_lt k (s.radius + 1)) [
            | inl b ↦ let p = row_before k v (omega arith) in let a = s.inside k v (omega arith) l in let m = u.more in omega arith
            | inr b ↦ let p = row_next k (omega arith) v in let a = u.inside v l in omega arith
          ]

      surveyed_next : Owns G O stands s list pool → Surveyed G (net_of stands s.draft list) (suc s.radius) (mark_of marks_then) (found stands f.used pool')
      surveyed_next o =
          grown G (net_of stands s.draft list) s.radius (mark_of s.marks) (found stands s.used pool) o.surveyed (slice_index f.marks) (found stands f.used pool') (u.growing o.searchable)
          (mark_of marks_then) (λ k v h l. row_before k v h) (λ v h. row_next (suc s.radius) (sym (add-one s.radius)) v)

      -- the next shells are found
      pub grow_done : (s' : Survey) → s'.draft ≡ s.draft → s'.radius ≡ s.radius + 1 → s'.used ≡ f.used → s'.room ≡ s.room → s'.marks ≡ marks_then → GrowClause G O stands s list pool (Ok tt) s' pool'
      grow_done s' draft_is radius_is used_is room_is marks_is = record {
        short = false;
        answer = ((known, (high, (false≢true, tt))), record { draft = draft_is; radius = radius_is ∙ add-one s.radius; room = room_is });
        long = long;
        untouched = λ t. absurd (known t);
        at_most = λ h. absurd (high h);
        room = λ o h.
            let net = net_of stands s.draft list in
            let b = balls_found O G net (suc s.radius) in
            let e = surveyed_total G net (suc s.radius) (mark_of marks_then) (found stands f.used pool') (surveyed_next o) b.0 b.1 in
            let n = found_count stands f.used pool' (let r = u.room in omega arith) in
            (b.0, b.1, (let r = u.room in omega arith));
        owns = λ o. record {
          own_list = o.own_list ∙ sym (ap (λ (d : Draft). d.room) draft_is);
          own_pool = long ∙ o.own_pool ∙ sym room_is;
          drawn = subst (λ (d : Draft). Drawn G (net_of stands d list)) (sym draft_is) o.drawn;
          searchable = subst (λ (n : ℕ). Searchable O stands n pool') (sym used_is) (u.searchable o.searchable);
          surveyed =
              subst (λ (d : Draft). Surveyed G (net_of stands d list) s'.radius (mark_of s'.marks) (found stands s'.used pool')) (sym draft_is)
              (subst (λ (n : ℕ). Surveyed G (net_of stands s.draft list) n (mark_of s'.marks) (found stands s'.used pool')) (sym (radius_is ∙ add-one s.radius))
              (subst (λ (ms : List (List ℕ)). Surveyed G (net_of stands s.draft list) (suc s.radius) (mark_of ms) (found stands s'.used pool')) (sym marks_is)
              (subst (λ (n : ℕ). Surveyed G (net_of stands s.draft list) (suc s.radius) (mark_of marks_then) (found stands n pool')) (sym used_is) (surveyed_next o))));
        };
      }

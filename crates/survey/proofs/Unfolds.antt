-- A round of growth, node by node.
use Rattle.std.proofs.Common.{◌≡◌, ℕ, suc, ◌+◌, ◌<◌, ◌≤◌, List, length, slice_index, set, Ok, Err, sym, ap, ◌∙◌, subst, inl, inr, add-one, arith}
use Rattle.std.specs.List.{between}
use Rattle.std.proofs.lemmas.List.{length-set, get_or-set_same, get_or-set_other}
use Rattle.std.proofs.lemmas.Bool.{cases_lt}
use Rattle.label.specs.Group.{Group}
use Rattle.label.specs.Order.{Order}
use Rattle.net.specs.Model.{net_of, lines_of}
use Rattle.net.specs.declared.records.Line.{Line}
use Rattle.growth.specs.Entry.{Entry, Sight, junctions}
use Rattle.growth.specs.Noted.{Noted, Overfull}
use Rattle.growth.specs.Surveyed.{targets}
use Rattle.growth.proofs.Parts.{between_front}
use Rattle.growth.proofs.Growths.{growing_more}
use Rattle.survey.specs.Found.{found}
use Rattle.survey.specs.Searching.{Searchable}
use Rattle.survey.specs.Stepping.{Stepped, held}
use Rattle.survey.specs.Marks.{mark_of}
use Rattle.survey.specs.Unfolding.{Unfolded, UnfoldClause}
use Rattle.survey.specs.declared.records.Record.{Record}
use Rattle.survey.specs.declared.shelling.Shelling.{Shelling}
use Rattle.survey.specs.declared.search.Exhausted.{Exhausted}
use Rattle.survey.specs.declared.surveys.Survey.{Survey}
use Rattle.survey.proofs.Trees.{found_count}
use Rattle.survey.proofs.Steps.{kept_join}

module _ {L M : Type 0} (G : Group M) (O : Order M) (stands : L → M) (s : Survey) (list : List (Line L)) (pool : List (Record L)) (room : s.used ≤ length pool) where
  module _ (marks : List ℕ) (t t' : Shelling L) (long : length t.pool.now ≡ length pool) (far : t.distance ≡ s.radius + 1) (is_node : t.centre < s.draft.nodes) (u : Unfolded G O stands s list pool t.centre (record { used = t.used; marks = marks }) t.pool.now)
      (from to : ℕ) (from_is : from ≡ mark_of s.marks s.radius t.centre) (to_is : to ≡ mark_of s.marks s.radius (suc t.centre)) (within : to ≤ s.used) (lines : ℕ) (lines_is : lines ≡ s.draft.lines) where
    -- what is asked about the node, by so many lines of the list
    abbrev pub asked : ℕ → List (Sight M)
    asked n = targets G (record { nodes = s.draft.nodes; lines = lines_of stands n list }) t.centre (junctions (between from to (held O stands t)))

    -- what the node's last shell asks
    abbrev shell_asks : List (Sight M)
    shell_asks = targets G (net_of stands s.draft list) t.centre (junctions (between (mark_of s.marks s.radius t.centre) (mark_of s.marks s.radius (suc t.centre)) (found stands s.used pool)))

    -- what is asked about the node is what its last shell of the first found list asks
    asked_same : Searchable O stands s.used pool → asked lines ≡ shell_asks
    asked_same q =
        let net = net_of stands s.draft list in
        let E = found stands s.used pool in
        let n = found_count stands s.used pool room in
        ap asked lines_is
        ∙ ap (λ (es : List (Entry M)). targets G net t.centre (junctions es)) (between_front from to (length E) (held O stands t) E (omega arith) (u.growing q).kept)
        ∙ ap (λ (i : ℕ). targets G net t.centre (junctions (between i to E))) from_is
        ∙ ap (λ (i : ℕ). targets G net t.centre (junctions (between (mark_of s.marks s.radius t.centre) i E))) to_is

    next_radius : t.distance ≡ suc s.radius
    next_radius = far ∙ add-one s.radius

    -- one node more
    unfold_next : Stepped O stands t (asked lines) (Ok tt) t' → s.draft.nodes ≤ 24 →
        Unfolded G O stands s list pool (suc t.centre) (record { used = t'.used; marks = set marks (t.centre + 1) t'.used }) t'.pool.now
    unfold_next a few =
        let net = net_of stands s.draft list in
        let c = t.centre in
        let marks' = set marks (c + 1) t'.used in
        let count = u.marked in
        let grew = a.more in
        let more = u.more in
        let last : slice_index marks' (suc c) ≡ t'.used = ap (λ (i : ℕ). slice_index marks' i) (sym (add-one c)) ∙ get_or-set_same marks (c + 1) t'.used 0 (omega arith) in
        let others : (v : ℕ) → v ≤ c → slice_index marks' v ≡ slice_index marks v = λ v h. get_or-set_other marks (c + 1) v t'.used 0 (λ q. let z : ⊥ = omega arith in z) in
        record {
          marked = length-set marks (c + 1) t'.used ∙ count;
          ordered = λ v h. elim (cases_lt v c) [
            | inl b ↦ let p = others v (omega arith) in let q = others (suc v) (omega arith) in let o = u.ordered v b in omega arith
            | inr b ↦
                let z : v ≡ c = omega arith in
                subst (λ (w : ℕ). slice_index marks' w ≤ slice_index marks' (suc w)) (sym z) (let p = others c (omega arith) in let o = u.inside c (omega arith) in omega arith)
          ];
          inside = λ v h. elim (cases_lt v (suc c)) [
            | inl b ↦ let p = others v (omega arith) in let o = u.inside v (omega arith) in omega arith
            | inr b ↦ let z : v ≡ suc c = omega arith in subst (λ (w : ℕ). slice_index marks' w ≤ t'.used) (sym z) (omega arith)
          ];
          more = omega arith;
          room = let r = t'.in_room in let e = a.steady.long in omega arith;
          kept = kept_join O stands s.used t.used pool t.pool.now t'.pool.now more u.kept a.kept;
          searchable = λ q. (a.enlarged (u.searchable q)).1;
          growing = λ q.
              growing_more G net s.radius (mark_of s.marks) (found stands s.used pool) c (slice_index marks) (slice_index marks') (held O stands t) (held O stands t') (u.growing q)
              (subst (λ (d : ℕ). Noted d (held O stands t) shell_asks (held O stands t')) next_radius
              (subst (λ (ts : List (Sight M)). Noted t.distance (held O stands t) ts (held O stands t')) (asked_same q) (a.enlarged (u.searchable q)).0))
              others (last ∙ sym (found_count stands t'.used t'.pool.now t'.in_room));
        }

    pub unfold_more : Stepped O stands t (asked lines) (Ok tt) t' → s.draft.nodes ≤ 24 → (pool'' : List (Record L)) → pool'' ≡ t'.pool.now →
        Unfolded G O stands s list pool (t.centre + 1) (record { used = t'.used; marks = set marks (t.centre + 1) t'.used }) pool''
    unfold_more a few pool'' e = subst (λ (p : List (Record L)). Unfolded G O stands s list pool (t.centre + 1) (record { used = t'.used; marks = set marks (t.centre + 1) t'.used }) p) (sym e)
        (subst (λ (k : ℕ). Unfolded G O stands s list pool k (record { used = t'.used; marks = set marks (t.centre + 1) t'.used }) t'.pool.now) (sym (add-one t.centre)) (unfold_next a few))

    -- or the records run out
    pub unfold_short : (e : Exhausted) → Stepped O stands t (asked lines) (Err e) t' → (pool'' : List (Record L)) → pool'' ≡ t'.pool.now → UnfoldClause G O stands s list pool (Err e) pool''
    unfold_short e a pool'' same = subst (λ (p : List (Record L)). UnfoldClause G O stands s list pool (Err e) p) (sym same) (
      kept_join O stands s.used t.used pool t.pool.now t'.pool.now u.more u.kept a.kept,
      λ q. record {
        node = t.centre;
        is_node = is_node;
        next = slice_index marks;
        held = held O stands t;
        growing = u.growing q;
        overfull =
            subst (λ (n : ℕ). Overfull (suc s.radius) n (held O stands t) shell_asks) long
            (subst (λ (d : ℕ). Overfull d (length t.pool.now) (held O stands t) shell_asks) next_radius
            (subst (λ (ts : List (Sight M)). Overfull t.distance (length t.pool.now) (held O stands t) ts) (asked_same q) (a.enlarged (u.searchable q))));
      },
    )

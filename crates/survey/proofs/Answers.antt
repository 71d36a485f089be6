-- The answers of the questions to a survey.
use Rattle.std.proofs.Common.{◌≡◌, ℕ, ◌-◌, ◌<◌, ◌≤◌, List, map, length, take, drop, Some, None, Option, MatchOption, IsSomeAnd, Less, sym, refl, ap, ◌∙◌, subst, arith}
use mathlib.Core.List.{map-map}
use Rattle.std.specs.List.{between, slice_get}
use Rattle.std.specs.Option.{unwrap_or}
use Rattle.std.proofs.lemmas.List.{take-map, drop-map, length-map}
use Rattle.std.proofs.lemmas.List.Edits.{length-between}
use Rattle.label.specs.Group.{Group}
use Rattle.label.specs.Order.{Order}
use Rattle.mesh.specs.Listed.{In}
use Rattle.mesh.specs.Exactly.{Exactly, Many}
use Rattle.mesh.specs.Junction as mesh
use Rattle.mesh.specs.JunctionOrder.{junction_order}
use Rattle.mesh.specs.Shell.{Shell}
use Rattle.mesh.proofs.Lists.{in_map, from_map}
use Rattle.mesh.proofs.Counts.{one_count}
use Rattle.net.specs.Model.{net_of}
use Rattle.net.specs.Verdict.{First, here, later}
use Rattle.net.specs.declared.records.Line.{Line}
use Rattle.least.specs.Least.{Least, LeastClause}
use Rattle.least.specs.Nth.{Nth, NoMore, NthClause}
use Rattle.least.proofs.Counting.{distinct_many, lower_many}
use Rattle.growth.specs.Entry.{Entry, about, junctions}
use Rattle.growth.proofs.Questions.{surveyed_count, surveyed_found, surveyed_beyond}
use Rattle.growth.proofs.Parts.{between_front}
use Rattle.survey.specs.Marks.{mark_of}
use Rattle.survey.specs.Found.{junction_of, sight_of, entry_of, found}
use Rattle.survey.specs.Asking.{HasIt, Missed}
use Rattle.survey.specs.Owns.{Owns, size_of}
use Rattle.survey.specs.Rules.{ShellBreaks, shell_rules, member_rules}
use Rattle.survey.specs.Spans.{Spanned}
use Rattle.survey.specs.Clauses.{Before, Member, Next, Reaches}
use Rattle.survey.specs.declared.records.Junction.{Junction}
use Rattle.survey.specs.declared.records.Record.{Record}
use Rattle.std.specs.declared.ops.Range.{Range}
use Rattle.survey.specs.declared.search.Place.{Place}
use Rattle.survey.specs.declared.surveys.Survey.{Survey}
use Rattle.survey.specs.declared.refusals.SurveyRefusal.{SurveyRefusal}
use Rattle.survey.proofs.Places.{nth_take, nth_in}
use Rattle.survey.proofs.Trees.{missed_new}

-- what `map` makes of an option, whose closure answers the junction
pub mapped : {L : Type 0} (r : Option (Record L)) (a : Option (Junction L)) (P : Record L → Junction L → Type 0) → MatchOption r (a ≡ None) (λ m. IsSomeAnd a (P m)) → ((m : Record L) (j : Junction L) → P m j → j ≡ m.junction) → MatchOption r (a ≡ None) (λ m. a ≡ Some m.junction)
mapped None a P n f = n
mapped (Some m) None P n f = absurd n
mapped (Some m) (Some j) P n f = ap Some (f m j n)

-- the junction by which a record is ranked
abbrev pub rank : {L M : Type 0} → (L → M) → Record L → mesh.Junction M
rank stands r = junction_of stands r.junction

module _ {L M : Type 0} (G : Group M) (O : Order M) (stands : L → M) (s : Survey) (list : List (Line L)) (pool : List (Record L)) (v k : ℕ) (p : Range ℕ) (spanned : Spanned s (length pool) v k p) where
  -- the count is what the marks say, and with own memory the number of the shell's junctions
  pub span_size : p.end - p.start ≡ size_of s v k
  span_size = let a = spanned.begins in let b = spanned.ends in omega arith

  pub span_count : Owns G O stands s list pool → Many (Shell G (net_of stands s.draft list) v k) (p.end - p.start)
  span_count o = subst (λ (n : ℕ). Many (Shell G (net_of stands s.draft list) v k) n) (sym span_size) (surveyed_count o.surveyed v k spanned.node spanned.near)

  -- the junctions of the shell's records, in their order, are those of its entries
  ranked : map (rank stands) (between p.start p.end pool) ≡ junctions (between p.start p.end (found stands s.used pool))
  ranked =
      let from = p.start in
      let to = p.end in
      ap (map (rank stands)) (between_front from to s.used pool (take s.used pool) spanned.in_use refl)
      ∙ sym (map-map (λ (e : Entry M). e.sight.junction) (entry_of stands) (between from to (take s.used pool)))
      ∙ ap junctions (sym (take-map (entry_of stands) (to - from) (drop from (take s.used pool))) ∙ ap (take (to - from)) (sym (drop-map (entry_of stands) from (take s.used pool))))

  -- with own memory they are exactly the shell
  shell_exact : Owns G O stands s list pool → Exactly (Shell G (net_of stands s.draft list) v k) (map (rank stands) (between p.start p.end pool))
  shell_exact o =
      let part = (o.surveyed.parts v k spanned.node spanned.near).shell in
      subst (Exactly (Shell G (net_of stands s.draft list) v k)) (sym ranked)
      (subst (λ (n : ℕ). Exactly (Shell G (net_of stands s.draft list) v k) (junctions (between n p.end (found stands s.used pool)))) (sym spanned.begins)
      (subst (λ (n : ℕ). Exactly (Shell G (net_of stands s.draft list) v k) (junctions (between (mark_of s.marks k v) n (found stands s.used pool)))) (sym spanned.ends) part))

  -- the record with i different junctions below it
  member_found : (i : ℕ) (m : Record L) → Nth (junction_order O) (rank stands) (between p.start p.end pool) i m → Owns G O stands s list pool → Member G O stands (net_of stands s.draft list) v k i (rank stands m)
  member_found i m n o =
      let shell = between p.start p.end pool in
      record {
        in_shell = (shell_exact o).only (rank stands m) (in_map (rank stands) m shell n.found);
        before = lower_many (junction_order O) (Shell G (net_of stands s.draft list) v k) (map (rank stands) shell) (shell_exact o) (rank stands m) i n.lower;
      }

  -- with own memory there is one for each i below the count
  member_there : (i : ℕ) → i < p.end - p.start → NoMore (rank stands) (between p.start p.end pool) i → Owns G O stands s list pool → ⊥
  member_there i h n o =
      let shell = between p.start p.end pool in
      let a = one_count (λ x. In x (map (rank stands) shell)) (length (map (rank stands) shell)) n.ranks (distinct_many (map (rank stands) shell) (shell_exact o).distinct) n.all in
      let b = length-map shell (rank stands) in
      let c = length-between pool p.start p.end spanned.inside in
      let f = n.few in
      omega arith

  -- the least record above a floor
  next_found : (floor : Record L) (m : Record L) → Least (junction_order O) (rank stands) (between p.start p.end pool) (Some floor) m → Owns G O stands s list pool → (j : Junction L) → j ≡ m.junction → Next G O stands (net_of stands s.draft list) v k (rank stands floor) (Some j)
  next_found floor m n o j e =
      let shell = between p.start p.end pool in
      subst (λ (q : Junction L). Next G O stands (net_of stands s.draft list) v k (rank stands floor) (Some q)) (sym e) (
        (shell_exact o).only (rank stands m) (in_map (rank stands) m shell n.found),
        n.above,
        λ c t a b.
            let r = from_map (rank stands) c shell ((shell_exact o).all c t) in
            n.least r.0 r.1 (subst (Before G O stands (rank stands floor)) r.2 a) (subst (λ (x : mesh.Junction M). Before G O stands x (rank stands m)) r.2 b),
      )

  next_none : (floor : Record L) → ((x : Record L) → In x (between p.start p.end pool) → (junction_order O).cmp (rank stands floor) (rank stands x) ≡ Less → ⊥) → Owns G O stands s list pool → Next G O stands (net_of stands s.draft list) v k (rank stands floor) None
  next_none floor none o c t a =
      let r = from_map (rank stands) c (between p.start p.end pool) ((shell_exact o).all c t) in
      none r.0 r.1 (subst (Before G O stands (rank stands floor)) r.2 a)

  -- the answer of `member`, which has the first record where the entries have too few ranks
  pub member_told : (i : ℕ) (r : Option (Record L)) (d m : Record L) → NthClause (junction_order O) (rank stands) (between p.start p.end pool) i r → i < p.end - p.start → m ≡ unwrap_or r d → Owns G O stands s list pool → Member G O stands (net_of stands s.draft list) v k i (rank stands m)
  member_told i None d m n h e o = absurd (member_there i h n o)
  member_told i (Some x) d m n h e o = subst (λ (q : Record L). Member G O stands (net_of stands s.draft list) v k i (rank stands q)) (sym e) (member_found i x n o)

  -- the answer of `next_member`
  pub next_told : (floor : Record L) (r : Option (Record L)) (a : Option (Junction L)) → LeastClause (junction_order O) (rank stands) (between p.start p.end pool) (Some floor) r → MatchOption r (a ≡ None) (λ m. a ≡ Some m.junction) → Owns G O stands s list pool → Next G O stands (net_of stands s.draft list) v k (rank stands floor) a
  next_told floor None a n e o = subst (λ (q : Option (Junction L)). Next G O stands (net_of stands s.draft list) v k (rank stands floor) q) (sym e) (next_none floor n o)
  next_told floor (Some m) a n e o = subst (λ (q : Option (Junction L)). Next G O stands (net_of stands s.draft list) v k (rank stands floor) q) (sym e) (next_found floor m n o m.junction refl)

-- what is refused of a shell is refused of its members
pub first_member : (s : Survey) (lines records v k i : ℕ) (e : SurveyRefusal) → First (ShellBreaks s lines records v k 0) e shell_rules → First (ShellBreaks s lines records v k i) e member_rules
first_member s lines records v k i e (here b) = here b
first_member s lines records v k i e (later n (here b)) = later n (here b)
first_member s lines records v k i e (later n (later m (here b))) = later n (later m (here b))
first_member s lines records v k i e (later n (later m (later o x))) = elim x [ ]

module _ {L M : Type 0} (G : Group M) (O : Order M) (stands : L → M) (s : Survey) (list : List (Line L)) (pool : List (Record L)) (v : ℕ) (j : Junction L) (is_node : v < s.draft.nodes) (room : s.used ≤ length pool) where
  -- a junction that is found has the distance that its record tells
  pub reach_found : (at : ℕ) (r : Record L) → at < s.used → slice_get pool at ≡ Some r → HasIt O stands s.used pool (about v (junction_of stands j)) at → Owns G O stands s list pool → Reaches G O stands (net_of stands s.draft list) s.radius v (junction_of stands j) (Some r.distance)
  reach_found at r h read a o =
      let same : r ≡ a.what = let e = a.read in cc in
      let there : In (entry_of stands r) (found stands s.used pool) = in_map (entry_of stands) r (take s.used pool) (nth_in (take s.used pool) at r (nth_take s.used pool at h ∙ read)) in
      let t = surveyed_found o.surveyed (entry_of stands r) there v (junction_of stands j) (ap (sight_of stands) same ∙ a.same) in
      (t.1, t.0)

  -- one that is missing is farther off
  pub reach_missing : (place : Place) → Missed O stands s.used pool (about v (junction_of stands j)) v place → Owns G O stands s list pool → Reaches G O stands (net_of stands s.draft list) s.radius v (junction_of stands j) None
  reach_missing place m o = surveyed_beyond o.surveyed v (junction_of stands j) is_node (missed_new O stands s.used pool (about v (junction_of stands j)) place room m o.searchable)

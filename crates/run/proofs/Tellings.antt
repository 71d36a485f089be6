-- What a survey answers over its own memory, and so every survey that calls reach.
use Rattle.std.proofs.Common.{◌≡◌, ℕ, suc, ◌^◌, ◌<◌, ◌≤◌, Bool, true, false, ◌⊎◌, List, length, Some, None, Ok, Err, MatchBool, Option, Result, sym, refl, ap, ◌∙◌, subst, inl, inr, arith}
use Rattle.label.specs.Group.{Group}
use Rattle.label.specs.Order.{Order}
use Rattle.mesh.specs.Distance.{Distance}
use Rattle.mesh.specs.Junction as mesh
use Rattle.mesh.specs.Link.{Link}
use Rattle.mesh.specs.Net.{Net}
use Rattle.mesh.proofs.Walks.{one_distance}
use Rattle.net.specs.Model.{net_of}
use Rattle.net.specs.Verdict.{NoneOf, here, later, Settled}
use Rattle.net.specs.declared.records.Line.{Line}
use Rattle.net.proofs.Verdicts.{first_one, first_or_none}
use Rattle.growth.specs.Surveyed.{Balls}
use Rattle.survey.specs.Found.{junction_of}
use Rattle.survey.specs.Owns.{Owns, size_of}
use Rattle.survey.specs.Rules.{Strange, GrowBreaks, grow_rules, ShellBreaks, shell_rules, DistanceBreaks}
use Rattle.survey.specs.Clauses.{CountClause, Member, MemberClause, Next, NextClause, Reaches, DistanceClause, Grew, GrowClause}
use Rattle.survey.specs.declared.records.Junction.{Junction}
use Rattle.survey.specs.declared.records.Record.{Record}
use Rattle.survey.specs.declared.surveys.Survey.{Survey}
use Rattle.survey.specs.declared.refusals.SurveyRefusal.{SurveyRefusal}
use Rattle.survey.specs.declared.refusals.SurveyRefusal.TheVariants.{PoolFull, NoSuchMember}
use Rattle.run.specs.Findings.{ShellTold, DistanceTold, RoomTold, Findings, FindingsHold}
use Rattle.run.proofs.Members.{members, members_long, members_at, members_ascend, members_carried}
use Rattle.run.proofs.Runs.{run_owned}

-- the junction that an answer tells, and the home of v where it tells none
abbrev told_by : {L M : Type 0} → Group M → (L → M) → ℕ → Result (Junction L) SurveyRefusal → mesh.Junction M
told_by G stands v (Ok j) = junction_of stands j
told_by G stands v (Err e) = mesh.home G v

module _ {L M : Type 0} (G : Group M) (O : Order M) (stands : L → M) (s : Survey) (list : List (Line L)) (pool : List (Record L)) (o : Owns G O stands s list pool) where
  -- the net that is surveyed
  abbrev held : Net M
  held = net_of stands s.draft list

  pub own : Strange s (length list) (length pool) → ⊥
  own (inl f) = f o.own_list
  own (inr f) = f o.own_pool

  module _ (v k : ℕ) (node : v < s.draft.nodes) (near : k ≤ s.radius) where
    shell_allowed : NoneOf (ShellBreaks s (length list) (length pool) v k 0) shell_rules
    shell_allowed = (own, ((λ f. omega arith), ((λ f. omega arith), tt)))

    member_told : (i : ℕ) → i < size_of s v k → (a : Result (Junction L) SurveyRefusal) → MemberClause G O stands s list pool v k i a → (j : Junction L) × (a ≡ Ok j) × (told_by G stands v a ≡ junction_of stands j) × Member G O stands held v k i (told_by G stands v a)
    member_told i h (Ok j) c = (j, refl, refl, c.1 o)
    member_told i h (Err e) c = absurd (first_or_none (ShellBreaks s (length list) (length pool) v k i) c.0 (own, ((λ f. omega arith), ((λ f. omega arith), ((λ f. omega arith), tt)))))

    no_member : (i : ℕ) → size_of s v k ≤ i → (a : Result (Junction L) SurveyRefusal) → MemberClause G O stands s list pool v k i a → a ≡ Err NoSuchMember
    no_member i h (Ok j) c = absurd (c.0.1.1.1.0 h)
    no_member i h (Err e) c = ap Err (first_one (ShellBreaks s (length list) (length pool) v k i) c.0 (later own (later (λ f. omega arith) (later (λ f. omega arith) (here h)))))

    few_members : size_of s v k ≤ 65535
    few_members = let a = s.inside k (suc v) near (omega arith) in let b = s.in_room in let d = s.few_records in omega arith

    shell_told : (counted : Result ℕ SurveyRefusal) → CountClause G O stands s list pool v k counted → (member : ℕ → Result (Junction L) SurveyRefusal) → ((i : ℕ) → i < 2 ^ 32 → MemberClause G O stands s list pool v k i (member i)) → ShellTold G O stands held v k counted member
    shell_told (Ok n) c member m =
        let few = few_members in
        let f : ℕ → mesh.Junction M = λ i. told_by G stands v (member i) in
        let size = c.1.0 in
        let told : (i : ℕ) → i < n → (j : Junction L) × (member i ≡ Ok j) × (f i ≡ junction_of stands j) × Member G O stands held v k i (f i) =
        λ i h. member_told i (omega arith) (member i) (m i (omega arith)) in
        let each : (i : ℕ) → i < n → Member G O stands held v k i (f i) = λ i h. (told i h).3 in
        let all = c.1.1 o in
        record {
          number = n;
          count = refl;
          members = members G O stands held v k n f each all;
          long = members_long G O stands held v k n f each all;
          told = λ i h. ((told i h).0, (told i h).1, members_at G O stands held v k n f each all i h ∙ ap Some (told i h).2);
          no_more = λ i h w. no_member i (omega arith) (member i) (m i w);
          carried = members_carried G O stands held v k n f each all;
          ascend = members_ascend G O stands held v k n f each all;
        }
    shell_told (Err e) c member m = absurd (first_or_none (ShellBreaks s (length list) (length pool) v k 0) c.0 shell_allowed)

    next_told : (floor : Junction L) (a : Result (Option (Junction L)) SurveyRefusal) → NextClause G O stands s list pool v k floor a → (found : Option (Junction L)) × (a ≡ Ok found) × Next G O stands held v k (junction_of stands floor) found
    next_told floor (Ok found) c = (found, refl, c.1 o)
    next_told floor (Err e) c = absurd (first_or_none (ShellBreaks s (length list) (length pool) v k 0) c.0 shell_allowed)

  reach_told : (v : ℕ) (j : Junction L) (x : Option ℕ) → Reaches G O stands held s.radius v (junction_of stands j) x → DistanceTold G O stands held s.radius v j (Ok x)
  reach_told v j (Some m) h = record {
    reach = Some m;
    answer = refl;
    at = λ k. (
      λ e. let p : m ≡ k = cc in subst (λ (n : ℕ). (n ≤ s.radius) × Distance (Link G held) n (mesh.home G v) (junction_of stands j)) p h,
      λ d. ap Some (one_distance (Link G held) h.1 d.1),
    );
    beyond = (
      λ e. absurd (let z : ◌≡◌ {A = ℕ} 0 1 = cc in let y : ⊥ = omega arith in y),
      λ f. absurd (f (record { far = m; near = h.0; distance = h.1 })),
    );
  }
  reach_told v j None h = record {
    reach = None;
    answer = refl;
    at = λ k. (
      λ e. absurd (let z : ◌≡◌ {A = ℕ} 0 1 = cc in let y : ⊥ = omega arith in y),
      λ d. absurd (h (record { far = k; near = d.0; distance = d.1 })),
    );
    beyond = (λ e. h, λ f. refl);
  }

  distance_told : (v : ℕ) (j : Junction L) → v < s.draft.nodes → j.node < s.draft.nodes → (a : Result (Option ℕ) SurveyRefusal) → DistanceClause G O stands s list pool v j a → DistanceTold G O stands held s.radius v j a
  distance_told v j p q (Ok x) h = reach_told v j x (h.1 o)
  distance_told v j p q (Err e) h =
      absurd (first_or_none (DistanceBreaks s (length list) (length pool) v j.node) h.0 (own, ((λ f. elim f [ inl a ↦ omega arith | inr b ↦ omega arith ]), tt)))

  -- over own memory and below the greatest radius, growing is refused by nothing but want of records
  grow_settled : (short : Bool) (few more : Type 0) (Done : Unit → Type 0) (Kept : Type 0) → s.radius < 16 → MatchBool short few more → (a : Result Unit SurveyRefusal) → Settled (GrowBreaks s (length list) (length pool) short) grow_rules Done Kept a → ((a ≡ Ok tt) × more) ⊎ ((a ≡ Err PoolFull) × few)
  grow_settled true few more Done Kept below w (Ok u) h = absurd (h.0.1.1.0 refl)
  grow_settled true few more Done Kept below w (Err e) h = inr (ap Err (first_one (GrowBreaks s (length list) (length pool) true) h.0 (later own (later (λ f. omega arith) (here refl)))), w)
  grow_settled false few more Done Kept below w (Ok u) h = inl (refl, w)
  grow_settled false few more Done Kept below w (Err e) h =
      absurd (first_or_none (GrowBreaks s (length list) (length pool) false) h.0 (own, ((λ f. omega arith), ((λ f. let z : ◌≡◌ {A = ℕ} 0 1 = cc in omega arith), tt))))

  pub growth_told : s.radius < 16 → (a : Result Unit SurveyRefusal) (s' : Survey) (pool' : List (Record L)) → GrowClause G O stands s list pool a s' pool' → (total : ℕ) × Balls G held (suc s.radius) total × (((a ≡ Ok tt) × (total ≤ length pool)) ⊎ ((a ≡ Err PoolFull) × (length pool < total)))
  growth_told below a s' pool' h =
      let b = h.room o below in
      (b.0, b.1, grow_settled h.short (length pool < b.0) (b.0 ≤ length pool) (λ _. Grew G O stands s s') (s' ≡ s) below b.2 a h.answer)

  room_told : s.radius < 16 → (a : Result Unit SurveyRefusal) (s' : Survey) (pool' : List (Record L)) → GrowClause G O stands s list pool a s' pool' → RoomTold G O stands held s.radius (length pool) a
  room_told below a s' pool' h =
      let b = growth_told below a s' pool' h in
      elim b.2 [
        | inl x ↦
            let p = x.0 in let q = x.1 in
            record {
              total = b.0;
              balls = b.1;
              full = (λ e. absurd (let z : ◌≡◌ {A = ℕ} 0 1 = cc in let y : ⊥ = omega arith in y), λ l. absurd (let y : ⊥ = omega arith in y));
              grows = (λ e. q, λ l. p);
            }
        | inr x ↦
            let p = x.0 in let q = x.1 in
            record {
              total = b.0;
              balls = b.1;
              full = (λ e. q, λ l. p);
              grows = (λ e. absurd (let z : ◌≡◌ {A = ℕ} 0 1 = cc in let y : ⊥ = omega arith in y), λ l. absurd (let y : ⊥ = omega arith in y));
            }
      ]

  held_findings : Findings G O stands held s.radius s list pool
  held_findings = record {
    shells = λ v k node near. shell_told v k node near;
    nexts = λ v k node near. next_told v k node near;
    distances = distance_told;
    room = room_told;
  }

module _ {L M : Type 0} (G : Group M) (O : Order M) (stands : L → M) where
  pub findings_hold : FindingsHold G O stands
  findings_hold net r s list pool run =
      let w = run_owned G O stands run in
      subst (λ (x : Net M). Findings G O stands x r s list pool) (sym w.net_held)
      (subst (λ (x : ℕ). Findings G O stands (net_of stands s.draft list) x s list pool) (sym w.radius) (held_findings G O stands s list pool w.owns))

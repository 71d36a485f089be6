-- Each call, by its contract, does what the model says.
use Rattle.std.proofs.Common.{◌≡◌, ℕ, suc, ◌<◌, ◌≤◌, false, ◌⊎◌, List, [], ◌∷◌, ◌++◌, length, Ok, Err, Result, sym, refl, ap, ◌∙◌, subst, inl, inr, arith}
use native.Mathlib.Decide.{dec_le, dec_lt}
use Rattle.label.specs.Group.{Group}
use Rattle.label.specs.Order.{Order}
use Rattle.mesh.specs.Net.{Net}
use Rattle.net.specs.Model.{line_of, net_of}
use Rattle.net.specs.Rules.{LineBreaks, line_rules, BackBreaks, back_rules}
use Rattle.net.specs.Verdict.{NoneOf, First, here, later}
use Rattle.net.specs.Clauses.{LineClause, BackClause}
use Rattle.net.specs.declared.records.Line.{Line}
use Rattle.net.specs.declared.drafts.Draft.{Draft}
use Rattle.net.specs.declared.refusals.NetRefusal.{NetRefusal}
use Rattle.growth.specs.Surveyed.{Balls}
use Rattle.survey.specs.Rules.{SealBreaks, seal_rules, GrowBreaks, reopen_rules}
use Rattle.survey.specs.Clauses.{SealClause, GrowClause, ReopenClause}
use Rattle.survey.specs.declared.records.Record.{Record}
use Rattle.survey.specs.declared.surveys.Survey.{Survey}
use Rattle.survey.specs.declared.refusals.SurveyRefusal.{SurveyRefusal}
use Rattle.run.specs.Stage.{Stage, drawing, surveyed}
use Rattle.run.specs.After.{after_line, after_back, after_seal, after_grow, after_reopen, held_sealed, held_reopened}
use Rattle.run.specs.Run.{Run, lined, took_back, sealed, grown, reopened}
use Rattle.run.specs.Owned.{OwnedDraft, OwnedSurvey}
use Rattle.run.specs.Model.{Breaks, Stays, Turns, draws, takes_back, seals, grows, reopens, stays, Plays, ends, goes_on}
use Rattle.run.specs.Played.{TurnClause, PlayClause}
use Rattle.run.specs.declared.state.State.{State}
use Rattle.run.specs.declared.state.State.TheVariants.{Drafting, Surveying}
use Rattle.run.specs.declared.state.Call.{Call}
use Rattle.run.specs.declared.state.Call.TheVariants as call
use Rattle.run.proofs.Runs.{run_owned}
use Rattle.run.proofs.Tellings.{own, growth_told}

module _ {L M : Type 0} (G : Group M) (O : Order M) (stands : L → M) (list : List (Line L)) (pool : List (Record L)) where
  module _ (net : Net M) (d : Draft) (o : OwnedDraft G O stands net d list) where
    -- the rules of the model are those of the clause
    line_rule : (l : Line L) → LineBreaks G (net_of stands d list) d.room (length list) (line_of stands l) ≡ Breaks G stands (length list) net l
    line_rule l =
        ap (λ (n : Net M). LineBreaks G n d.room (length list) (line_of stands l)) (sym o.net_held)
        ∙ ap (λ (k : ℕ). LineBreaks G net k (length list) (line_of stands l)) (sym o.own_list)

    line_turns : (d' : Draft) (list' : List (Line L)) (l : Line L) (a : Result Unit NetRefusal) → LineClause G stands d list l a d' list' → Turns G stands (length list) (length pool) (call.Line l) (drawing net) (drawing (after_line stands net l a))
    line_turns d' list' l (Ok u) h = draws (subst (λ (B : NetRefusal → Type 0). NoneOf B line_rules) (line_rule l) h.0)
    line_turns d' list' l (Err e) h = stays (e, subst (λ (B : NetRefusal → Type 0). First B e line_rules) (line_rule l) h.0)

    no_line : (e : NetRefusal) → First (BackBreaks (net_of stands d list) d.room (length list)) e back_rules → length net.lines ≡ 0
    no_line e (here strange) = absurd (strange o.own_list)
    no_line e (later lent (here none)) = ap (λ (n : Net M). length n.lines) o.net_held ∙ none
    no_line e (later lent (later some f)) = elim f [ ]

    back_turns : (d' : Draft) (a : Result Unit NetRefusal) → BackClause G stands d list a d' → Turns G stands (length list) (length pool) call.TakeBack (drawing net) (drawing (after_back net a))
    back_turns d' (Ok u) h =
        let same = ap (λ (n : Net M). length n.lines) o.net_held in
        let some : 0 < length net.lines = elim (dec_lt 0 (length net.lines)) [ yes l ↦ l | no l ↦ absurd (h.0.1.0 (omega arith)) ] in
        takes_back some
    back_turns d' (Err e) h = stays (no_line e h.0)

    seal_turns : (fresh : List (Record L)) (a : Result Survey (SurveyRefusal × Draft)) → SealClause G O stands d list pool a fresh → Turns G stands (length list) (length pool) call.Seal (drawing net) (after_seal net a)
    seal_turns fresh (Ok s) h =
        let same = ap (λ (n : Net M). n.nodes) o.net_held in
        let homes : net.nodes ≤ length pool = elim (dec_le net.nodes (length pool)) [ yes l ↦ l | no l ↦ absurd (h.0.1.0 (inl (omega arith))) ] in
        let most : length pool ≤ 65535 = elim (dec_le (length pool) 65535) [ yes l ↦ l | no l ↦ absurd (h.0.1.0 (inr (omega arith))) ] in
        seals homes most
    seal_turns fresh (Err b) h = stays (wrong_size b.0 h.0)
      where
        wrong_size : (e : SurveyRefusal) → First (SealBreaks d (length list) (length pool)) e seal_rules → (length pool < net.nodes) ⊎ (65535 < length pool)
        wrong_size e (here strange) = absurd (strange o.own_list)
        wrong_size e (later lent (here size)) =
            let same = ap (λ (n : Net M). n.nodes) o.net_held in
            elim size [ inl l ↦ inl (omega arith) | inr l ↦ inr l ]
        wrong_size e (later lent (later fits f)) = elim f [ ]

  module _ (net : Net M) (r : ℕ) (s : Survey) (o : OwnedSurvey G O stands net r s list pool) where
    held_balls : (total : ℕ) → Balls G (net_of stands s.draft list) (suc s.radius) total → Balls G net (suc r) total
    held_balls total b =
        subst (λ (n : Net M). Balls G n (suc r) total) (sym o.net_held) (subst (λ (k : ℕ). Balls G (net_of stands s.draft list) (suc k) total) (sym o.radius) b)

    grow_turns : (s' : Survey) (pool' : List (Record L)) (a : Result Unit SurveyRefusal) → GrowClause G O stands s list pool a s' pool' → Turns G stands (length list) (length pool) call.Grow (surveyed net r) (surveyed net (after_grow r a))
    grow_turns s' pool' (Ok u) h =
        let same = o.radius in
        let below : s.radius < 16 = elim (dec_lt s.radius 16) [ yes l ↦ l | no l ↦ absurd (h.answer.0.1.0 (omega arith)) ] in
        let b = growth_told G O stands s list pool o.owns below (Ok u) s' pool' h in
        elim b.2 [
          | inl x ↦ grows b.0 (omega arith) (held_balls b.0 b.1) x.1
          | inr x ↦ absurd (let p = x.0 in let z : ◌≡◌ {A = ℕ} 0 1 = cc in let y : ⊥ = omega arith in y)
        ]
    grow_turns s' pool' (Err e) h =
        let same = o.radius in
        elim (dec_lt s.radius 16) [
          | yes below ↦
              let b = growth_told G O stands s list pool o.owns below (Err e) s' pool' h in
              elim b.2 [
                | inl x ↦ absurd (let p = x.0 in let z : ◌≡◌ {A = ℕ} 0 1 = cc in let y : ⊥ = omega arith in y)
                | inr x ↦ stays (inr (b.0, held_balls b.0 b.1, x.1))
              ]
          | no above ↦ stays (inl (omega arith))
        ]

    reopen_turns : (a : Result Draft (SurveyRefusal × Survey)) → ReopenClause G O stands s list pool a → Turns G stands (length list) (length pool) call.Reopen (surveyed net r) (after_reopen net r a)
    reopen_turns (Ok d) h = reopens
    reopen_turns (Err b) h = absurd (never b.0 h.0)
      where
        never : (e : SurveyRefusal) → First (GrowBreaks s (length list) (length pool) false) e reopen_rules → ⊥
        never e (here strange) = own G O stands s list pool o.owns strange
        never e (later lent f) = elim f [ ]

  -- a call on a draft does what it makes of every net that the draft can hold
  draft_turn : (d : Draft) (c : Call L) (st : State) (list' : List (Line L)) (pool' : List (Record L)) (after : Net M → Stage M) → ((net : Net M) → OwnedDraft G O stands net d list → Turns G stands (length list) (length pool) c (drawing net) (after net)) → ((net : Net M) → Run G O stands (drawing net) (Drafting d) list pool → Run G O stands (after net) st list' pool') → TurnClause G O stands (Drafting d) c list pool st list' pool'
  draft_turn d c st list' pool' after turns runs (drawing net) run = (after net, turns net (run_owned G O stands run), runs net run)
  draft_turn d c st list' pool' after turns runs (surveyed net r) run = absurd (run_owned G O stands run)

  -- and a call on a survey
  survey_turn : (s : Survey) (c : Call L) (st : State) (pool' : List (Record L)) (after : Net M → ℕ → Stage M) → ((net : Net M) (r : ℕ) → OwnedSurvey G O stands net r s list pool → Turns G stands (length list) (length pool) c (surveyed net r) (after net r)) → ((net : Net M) (r : ℕ) → Run G O stands (surveyed net r) (Surveying s) list pool → Run G O stands (after net r) st list pool') → TurnClause G O stands (Surveying s) c list pool st list pool'
  survey_turn s c st pool' after turns runs (drawing net) run = absurd (run_owned G O stands run)
  survey_turn s c st pool' after turns runs (surveyed net r) run = (after net r, turns net r (run_owned G O stands run), runs net r run)

  pub line_turn : (d d' : Draft) (list' : List (Line L)) (l : Line L) (a : Result Unit NetRefusal) → LineClause G stands d list l a d' list' → TurnClause G O stands (Drafting d) (call.Line l) list pool (Drafting d') list' pool
  line_turn d d' list' l a h =
      draft_turn d (call.Line l) (Drafting d') list' pool (λ net. drawing (after_line stands net l a))
      (λ net o. line_turns net d o d' list' l a h) (λ net run. lined net d d' list list' pool l a run h)

  pub back_turn : (d d' : Draft) (a : Result Unit NetRefusal) → BackClause G stands d list a d' → TurnClause G O stands (Drafting d) call.TakeBack list pool (Drafting d') list pool
  back_turn d d' a h =
      draft_turn d call.TakeBack (Drafting d') list pool (λ net. drawing (after_back net a))
      (λ net o. back_turns net d o d' a h) (λ net run. took_back net d d' list pool a run h)

  pub seal_turn : (d : Draft) (pool' : List (Record L)) (a : Result Survey (SurveyRefusal × Draft)) → SealClause G O stands d list pool a pool' → TurnClause G O stands (Drafting d) call.Seal list pool (held_sealed a) list pool'
  seal_turn d pool' a h =
      draft_turn d call.Seal (held_sealed a) list pool' (λ net. after_seal net a)
      (λ net o. seal_turns net d o pool' a h) (λ net run. sealed net d list pool pool pool' a run h)

  pub grow_turn : (s s' : Survey) (pool' : List (Record L)) (a : Result Unit SurveyRefusal) → GrowClause G O stands s list pool a s' pool' → TurnClause G O stands (Surveying s) call.Grow list pool (Surveying s') list pool'
  grow_turn s s' pool' a h =
      survey_turn s call.Grow (Surveying s') pool' (λ net r. surveyed net (after_grow r a))
      (λ net r o. grow_turns net r s o s' pool' a h) (λ net r run. grown net r s s' list pool pool' a run h)

  pub reopen_turn : (s : Survey) (a : Result Draft (SurveyRefusal × Survey)) → ReopenClause G O stands s list pool a → TurnClause G O stands (Surveying s) call.Reopen list pool (held_reopened a) list pool
  reopen_turn s a h =
      survey_turn s call.Reopen (held_reopened a) pool (λ net r. after_reopen net r a)
      (λ net r o. reopen_turns net r s o a h) (λ net r run. reopened net r s list pool a run h)

  -- what is not for a draft leaves it as it is
  pub draft_idle : (d : Draft) (c : Call L) → ((net : Net M) → Stays G stands (length list) (length pool) c (drawing net)) → TurnClause G O stands (Drafting d) c list pool (Drafting d) list pool
  draft_idle d c idle = draft_turn d c (Drafting d) list pool drawing (λ net o. stays (idle net)) (λ net run. run)

  -- what asks a survey, or is not for it, leaves it as it is
  pub survey_idle : (s : Survey) (c : Call L) → ((net : Net M) (r : ℕ) → Stays G stands (length list) (length pool) c (surveyed net r)) → TurnClause G O stands (Surveying s) c list pool (Surveying s) list pool
  survey_idle s c idle = survey_turn s c (Surveying s) pool surveyed (λ net r o. stays (idle net r)) (λ net r run. run)

  -- a draft leaves out what is not for it
  pub draft_other : (d : Draft) (c : Call L) → ((l : Line L) → c ≡ call.Line l → ⊥) → (c ≡ call.TakeBack → ⊥) → (c ≡ call.Seal → ⊥) → TurnClause G O stands (Drafting d) c list pool (Drafting d) list pool
  draft_other d (call.Line l) line back seal = absurd (line l refl)
  draft_other d call.TakeBack line back seal = absurd (back refl)
  draft_other d call.Seal line back seal = absurd (seal refl)
  draft_other d call.Grow line back seal = draft_idle d call.Grow (λ net. tt)
  draft_other d (call.Count v k) line back seal = draft_idle d (call.Count v k) (λ net. tt)
  draft_other d (call.Member v k i) line back seal = draft_idle d (call.Member v k i) (λ net. tt)
  draft_other d (call.Next v k floor) line back seal = draft_idle d (call.Next v k floor) (λ net. tt)
  draft_other d (call.Distance v to) line back seal = draft_idle d (call.Distance v to) (λ net. tt)
  draft_other d call.Reopen line back seal = draft_idle d call.Reopen (λ net. tt)

  -- a survey leaves out what is not for it, and a question leaves it as it is
  pub survey_other : (s : Survey) (c : Call L) → (c ≡ call.Grow → ⊥) → (c ≡ call.Reopen → ⊥) → TurnClause G O stands (Surveying s) c list pool (Surveying s) list pool
  survey_other s (call.Line l) grow reopen = survey_idle s (call.Line l) (λ net r. tt)
  survey_other s call.TakeBack grow reopen = survey_idle s call.TakeBack (λ net r. tt)
  survey_other s call.Seal grow reopen = survey_idle s call.Seal (λ net r. tt)
  survey_other s call.Grow grow reopen = absurd (grow refl)
  survey_other s (call.Count v k) grow reopen = survey_idle s (call.Count v k) (λ net r. tt)
  survey_other s (call.Member v k i) grow reopen = survey_idle s (call.Member v k i) (λ net r. tt)
  survey_other s (call.Next v k floor) grow reopen = survey_idle s (call.Next v k floor) (λ net r. tt)
  survey_other s (call.Distance v to) grow reopen = survey_idle s (call.Distance v to) (λ net r. tt)
  survey_other s call.Reopen grow reopen = absurd (reopen refl)

-- one call more at the end
plays_more : {L M : Type 0} (G : Group M) (stands : L → M) (room space : ℕ) (c : Call L) {cs : List (Call L)} {n m k : Stage M} → Plays G stands room space cs n m → Turns G stands room space c m k → Plays G stands room space (cs ++ (c ∷ [])) n k
plays_more G stands room space c ends t = goes_on t ends
plays_more G stands room space c (goes_on u p) t = goes_on u (plays_more G stands room space c p t)

module _ {L M : Type 0} (G : Group M) (O : Order M) (stands : L → M) (start : State) (list : List (Line L)) (pool : List (Record L)) where
  pub play_none : PlayClause G O stands start [] list pool start list pool
  play_none n run = (n, ends, run)

  pub play_more : (cs : List (Call L)) (c : Call L) (st st' : State) (list' list'' : List (Line L)) (pool' pool'' : List (Record L)) → PlayClause G O stands start cs list pool st list' pool' → length list' ≡ length list → length pool' ≡ length pool → TurnClause G O stands st c list' pool' st' list'' pool'' → PlayClause G O stands start (cs ++ (c ∷ [])) list pool st' list'' pool''
  play_more cs c st st' list' list'' pool' pool'' played lines records turned n run =
      let p = played n run in
      let t = turned p.0 p.2 in
      let same : Turns G stands (length list) (length pool) c p.0 t.0 =
      subst (λ (k : ℕ). Turns G stands k (length pool) c p.0 t.0) lines (subst (λ (k : ℕ). Turns G stands (length list') k c p.0 t.0) records t.1) in
      (t.0, plays_more G stands (length list) (length pool) c p.1 same, t.2)

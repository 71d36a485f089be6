-- What calls reach is owned: state and memory hold the stage.
use Rattle.std.proofs.Common.{◌≡◌, ℕ, suc, ◌-◌, ◌≢◌, List, [], ◌∷◌, ◌++◌, length, Ok, Err, Result, sym, ap, ◌∙◌, subst, arith, length-set}
use Rattle.std.proofs.lemmas.List.{take_at, length_push}
use Rattle.label.specs.Group.{Group}
use Rattle.label.specs.Order.{Order}
use Rattle.mesh.specs.Net as mesh
use Rattle.mesh.specs.Drawn.{Drawn}
use Rattle.net.specs.Model.{line_of, net_of, with_line}
use Rattle.net.specs.Clauses.{OpenClause, LineClause, BackClause}
use Rattle.net.specs.declared.records.Line.{Line}
use Rattle.net.specs.declared.drafts.Draft.{Draft}
use Rattle.net.specs.declared.refusals.NetRefusal.{NetRefusal}
use Rattle.survey.specs.Rules.{Strange}
use Rattle.survey.specs.Clauses.{SealClause, GrowClause, ReopenClause}
use Rattle.survey.specs.declared.records.Record.{Record}
use Rattle.survey.specs.declared.surveys.Survey.{Survey}
use Rattle.survey.specs.declared.refusals.SurveyRefusal.{SurveyRefusal}
use Rattle.run.specs.Stage.{Stage, drawing, surveyed}
use Rattle.run.specs.Owned.{OwnedDraft, OwnedSurvey, Owned}
use Rattle.run.specs.After.{blank_net, without_last, after_line, after_back, after_seal, after_grow, after_reopen, held_sealed, held_reopened}
use Rattle.run.specs.Run.{Run, opened, lined, lined_elsewhere, took_back, took_back_elsewhere, sealed, sealed_elsewhere, grown, grown_elsewhere, counted, counted_elsewhere, membered, membered_elsewhere, nexted, nexted_elsewhere, measured, measured_elsewhere, reopened, reopened_elsewhere}
use Rattle.run.specs.declared.state.State.{State}

-- a line drawn and taken back again
pub drawn_and_back : {M : Type 0} (net : mesh.Net M) (l : mesh.Line M) → without_last (with_line net l) ≡ net
drawn_and_back {M} net l =
    let long = length_push net.lines l in
    let one_less : length net.lines ≡ length (net.lines ++ (l ∷ [])) - 1 = omega arith in
    ap (λ (ls : List (mesh.Line M)). let n : mesh.Net M = record { nodes = net.nodes; lines = ls } in n) (take_at net.lines (l ∷ []) (length (net.lines ++ (l ∷ [])) - 1) one_less)

module _ {L M : Type 0} (G : Group M) (O : Order M) (stands : L → M) where
  opened_owned : (nodes : ℕ) (d : Draft) (list : List (Line L)) → OpenClause G stands nodes list (Ok d) → OwnedDraft G O stands (blank_net nodes) d list
  opened_owned nodes d list h = record {
    own_list = sym h.1.room;
    net_held = sym h.1.net;
    drawn = subst (Drawn G) h.1.net h.1.drawn;
  }

  module _ (net : mesh.Net M) (d : Draft) (list : List (Line L)) (o : OwnedDraft G O stands net d list) where
    held_drawn : Drawn G (net_of stands d list)
    held_drawn = subst (Drawn G) o.net_held o.drawn

    same_draft : (d' : Draft) → d' ≡ d → OwnedDraft G O stands net d' list
    same_draft d' e = subst (λ (x : Draft). OwnedDraft G O stands net x list) (sym e) o

    line_owned : (d' : Draft) (list' : List (Line L)) (l : Line L) (a : Result Unit NetRefusal) → LineClause G stands d list l a d' list' → OwnedDraft G O stands (after_line stands net l a) d' list'
    line_owned d' list' l (Ok u) h =
        let w = h.1 in
        let held : with_line net (line_of stands l) ≡ net_of stands d' list' = ap (λ (n : mesh.Net M). with_line n (line_of stands l)) o.net_held ∙ sym w.net in
        record {
          own_list = ap length w.wrote ∙ length-set list d.lines l ∙ o.own_list ∙ sym w.same_room;
          net_held = held;
          drawn = subst (Drawn G) (sym held) (w.drawn held_drawn);
        }
    line_owned d' list' l (Err e) h = subst (λ (x : List (Line L)). OwnedDraft G O stands net d' x) (sym h.1.1) (same_draft d' h.1.0)

    line_elsewhere : (d' : Draft) (other other' : List (Line L)) (l : Line L) (a : Result Unit NetRefusal) → length other ≢ d.room → LineClause G stands d other l a d' other' → OwnedDraft G O stands net d' list
    line_elsewhere d' other other' l (Ok u) strange h = absurd (h.0.0 strange)
    line_elsewhere d' other other' l (Err e) strange h = same_draft d' h.1.0

    back_owned : (d' : Draft) (a : Result Unit NetRefusal) → BackClause G stands d list a d' → OwnedDraft G O stands (after_back net a) d' list
    back_owned d' (Ok u) h =
        let w = h.1 in
        let held : without_last net ≡ net_of stands d' list = ap without_last (o.net_held ∙ w.net.1) ∙ drawn_and_back (net_of stands d' list) w.net.0 in
        record {
          own_list = o.own_list ∙ sym w.same_room;
          net_held = held;
          drawn = subst (Drawn G) (sym held) (w.drawn held_drawn);
        }
    back_owned d' (Err e) h = same_draft d' h.1

    back_elsewhere : (d' : Draft) (other : List (Line L)) (a : Result Unit NetRefusal) → length other ≢ d.room → BackClause G stands d other a d' → OwnedDraft G O stands net d' list
    back_elsewhere d' other (Ok u) strange h = absurd (h.0.0 strange)
    back_elsewhere d' other (Err e) strange h = same_draft d' h.1

    seal_owned : (fresh fresh' : List (Record L)) (a : Result Survey (SurveyRefusal × Draft)) → SealClause G O stands d list fresh a fresh' → Owned G O stands (after_seal net a) (held_sealed a) list fresh'
    seal_owned fresh fresh' (Ok s) h =
        let w = h.1 in
        record {
          net_held = o.net_held ∙ ap (λ (x : Draft). net_of stands x list) (sym w.draft);
          radius = sym w.radius;
          owns = w.owns held_drawn;
        }
    seal_owned fresh fresh' (Err b) h = same_draft b.1 h.1.0

    seal_elsewhere : (other : List (Line L)) (pool fresh fresh' : List (Record L)) (a : Result Survey (SurveyRefusal × Draft)) → length other ≢ d.room → SealClause G O stands d other fresh a fresh' → Owned G O stands (drawing net) (held_sealed a) list pool
    seal_elsewhere other pool fresh fresh' (Ok s) strange h = absurd (h.0.0 strange)
    seal_elsewhere other pool fresh fresh' (Err b) strange h = same_draft b.1 h.1.0

  module _ (net : mesh.Net M) (r : ℕ) (s : Survey) (list : List (Line L)) (pool : List (Record L)) (o : OwnedSurvey G O stands net r s list pool) where
    same_survey : (s' : Survey) → s' ≡ s → OwnedSurvey G O stands net r s' list pool
    same_survey s' e = subst (λ (x : Survey). OwnedSurvey G O stands net r x list pool) (sym e) o

    grow_owned : (s' : Survey) (pool' : List (Record L)) (a : Result Unit SurveyRefusal) → GrowClause G O stands s list pool a s' pool' → OwnedSurvey G O stands net (after_grow r a) s' list pool'
    grow_owned s' pool' (Ok u) h =
        let w = h.answer.1 in
        record {
          net_held = o.net_held ∙ ap (λ (x : Draft). net_of stands x list) (sym w.draft);
          radius = ap suc o.radius ∙ sym w.radius;
          owns = h.owns o.owns;
        }
    grow_owned s' pool' (Err e) h =
        let same = h.answer.1 in
        record {
          net_held = (same_survey s' same).net_held;
          radius = (same_survey s' same).radius;
          owns = h.owns o.owns;
        }

    grow_elsewhere : (s' : Survey) (other : List (Line L)) (fresh fresh' : List (Record L)) (a : Result Unit SurveyRefusal) → Strange s (length other) (length fresh) → GrowClause G O stands s other fresh a s' fresh' → OwnedSurvey G O stands net r s' list pool
    grow_elsewhere s' other fresh fresh' (Ok u) strange h = absurd (h.answer.0.0 strange)
    grow_elsewhere s' other fresh fresh' (Err e) strange h = same_survey s' h.answer.1

    reopen_owned : (a : Result Draft (SurveyRefusal × Survey)) → ReopenClause G O stands s list pool a → Owned G O stands (after_reopen net r a) (held_reopened a) list pool
    reopen_owned (Ok d) h = record {
      own_list = o.owns.own_list ∙ ap (λ (x : Draft). x.room) (sym h.1);
      net_held = o.net_held ∙ ap (λ (x : Draft). net_of stands x list) (sym h.1);
      drawn = subst (Drawn G) (sym o.net_held) o.owns.drawn;
    }
    reopen_owned (Err b) h = same_survey b.1 h.1

    reopen_elsewhere : (other : List (Line L)) (fresh : List (Record L)) (a : Result Draft (SurveyRefusal × Survey)) → Strange s (length other) (length fresh) → ReopenClause G O stands s other fresh a → Owned G O stands (surveyed net r) (held_reopened a) list pool
    reopen_elsewhere other fresh (Ok d) strange h = absurd (h.0.0 strange)
    reopen_elsewhere other fresh (Err b) strange h = same_survey b.1 h.1

  pub run_owned : {n : Stage M} {st : State} {list : List (Line L)} {pool : List (Record L)} → Run G O stands n st list pool → Owned G O stands n st list pool
  run_owned (opened nodes d list pool h) = opened_owned nodes d list h
  run_owned (lined net d d' list list' pool l a run h) = line_owned net d list (run_owned run) d' list' l a h
  run_owned (lined_elsewhere net d d' list other other' pool l a run strange h) = line_elsewhere net d list (run_owned run) d' other other' l a strange h
  run_owned (took_back net d d' list pool a run h) = back_owned net d list (run_owned run) d' a h
  run_owned (took_back_elsewhere net d d' list other pool a run strange h) = back_elsewhere net d list (run_owned run) d' other a strange h
  run_owned (sealed net d list pool fresh fresh' a run h) = seal_owned net d list (run_owned run) fresh fresh' a h
  run_owned (sealed_elsewhere net d list other pool fresh fresh' a run strange h) = seal_elsewhere net d list (run_owned run) other pool fresh fresh' a strange h
  run_owned (grown net r s s' list pool pool' a run h) = grow_owned net r s list pool (run_owned run) s' pool' a h
  run_owned (grown_elsewhere net r s s' list other pool fresh fresh' a run strange h) = grow_elsewhere net r s list pool (run_owned run) s' other fresh fresh' a strange h
  run_owned (counted net r s list pool v k a run h) = run_owned run
  run_owned (counted_elsewhere net r s list other pool fresh v k a run strange h) = run_owned run
  run_owned (membered net r s list pool v k i a run h) = run_owned run
  run_owned (membered_elsewhere net r s list other pool fresh v k i a run strange h) = run_owned run
  run_owned (nexted net r s list pool v k floor a run h) = run_owned run
  run_owned (nexted_elsewhere net r s list other pool fresh v k floor a run strange h) = run_owned run
  run_owned (measured net r s list pool v j a run h) = run_owned run
  run_owned (measured_elsewhere net r s list other pool fresh v j a run strange h) = run_owned run
  run_owned (reopened net r s list pool a run h) = reopen_owned net r s list pool (run_owned run) a h
  run_owned (reopened_elsewhere net r s list other pool fresh a run strange h) = reopen_elsewhere net r s list pool (run_owned run) other fresh a strange h

-- What calls on a net reach, each by the clause of its contract and with any answer that the clause allows. Assumes nothing.
use Rattle.std.specs.Prelude.{ℕ, ◌≢◌, List, length, Ok, Option, Result}
use Rattle.label.specs.Group.{Group}
use Rattle.label.specs.Order.{Order}
use Rattle.mesh.specs.Net.{Net}
use Rattle.net.specs.Clauses.{OpenClause, LineClause, BackClause}
use Rattle.net.specs.declared.records.Line.{Line}
use Rattle.net.specs.declared.drafts.Draft.{Draft}
use Rattle.net.specs.declared.refusals.NetRefusal.{NetRefusal}
use Rattle.survey.specs.Rules.{Strange}
use Rattle.survey.specs.Clauses.{SealClause, GrowClause, CountClause, MemberClause, NextClause, DistanceClause, ReopenClause}
use Rattle.survey.specs.declared.records.Junction.{Junction}
use Rattle.survey.specs.declared.records.Record.{Record}
use Rattle.survey.specs.declared.surveys.Survey.{Survey}
use Rattle.survey.specs.declared.refusals.SurveyRefusal.{SurveyRefusal}
use Rattle.run.specs.Stage.{Stage, drawing, surveyed}
use Rattle.run.specs.After.{blank_net, after_line, after_back, after_seal, after_grow, after_reopen, held_sealed, held_reopened}
use Rattle.run.specs.declared.state.State.{State}
use Rattle.run.specs.declared.state.State.TheVariants.{Drafting, Surveying}

module _ {L M : Type 0} (G : Group M) (O : Order M) (stands : L → M) where
  -- the stage, the program's state, and the net's own list and pool, as calls reach them;
  -- opening gets any list and sealing any pool, and else a call gets that memory, or other memory of another length, after which the net's own is as before
  pub data Run : Stage M → State → List (Line L) → List (Record L) → Type 0 where
    opened : (nodes : ℕ) (d : Draft) (list : List (Line L)) (pool : List (Record L)) → OpenClause G stands nodes list (Ok d) → Run (drawing (blank_net nodes)) (Drafting d) list pool
    lined : (net : Net M) (d d' : Draft) (list list' : List (Line L)) (pool : List (Record L)) (l : Line L) (a : Result Unit NetRefusal) → Run (drawing net) (Drafting d) list pool → LineClause G stands d list l a d' list' → Run (drawing (after_line stands net l a)) (Drafting d') list' pool
    lined_elsewhere : (net : Net M) (d d' : Draft) (list other other' : List (Line L)) (pool : List (Record L)) (l : Line L) (a : Result Unit NetRefusal) → Run (drawing net) (Drafting d) list pool → length other ≢ d.room → LineClause G stands d other l a d' other' → Run (drawing net) (Drafting d') list pool
    took_back : (net : Net M) (d d' : Draft) (list : List (Line L)) (pool : List (Record L)) (a : Result Unit NetRefusal) → Run (drawing net) (Drafting d) list pool → BackClause G stands d list a d' → Run (drawing (after_back net a)) (Drafting d') list pool
    took_back_elsewhere : (net : Net M) (d d' : Draft) (list other : List (Line L)) (pool : List (Record L)) (a : Result Unit NetRefusal) → Run (drawing net) (Drafting d) list pool → length other ≢ d.room → BackClause G stands d other a d' → Run (drawing net) (Drafting d') list pool
    sealed : (net : Net M) (d : Draft) (list : List (Line L)) (pool fresh fresh' : List (Record L)) (a : Result Survey (SurveyRefusal × Draft)) → Run (drawing net) (Drafting d) list pool → SealClause G O stands d list fresh a fresh' → Run (after_seal net a) (held_sealed a) list fresh'
    sealed_elsewhere : (net : Net M) (d : Draft) (list other : List (Line L)) (pool fresh fresh' : List (Record L)) (a : Result Survey (SurveyRefusal × Draft)) → Run (drawing net) (Drafting d) list pool → length other ≢ d.room → SealClause G O stands d other fresh a fresh' → Run (drawing net) (held_sealed a) list pool
    grown : (net : Net M) (r : ℕ) (s s' : Survey) (list : List (Line L)) (pool pool' : List (Record L)) (a : Result Unit SurveyRefusal) → Run (surveyed net r) (Surveying s) list pool → GrowClause G O stands s list pool a s' pool' → Run (surveyed net (after_grow r a)) (Surveying s') list pool'
    grown_elsewhere : (net : Net M) (r : ℕ) (s s' : Survey) (list other : List (Line L)) (pool fresh fresh' : List (Record L)) (a : Result Unit SurveyRefusal) → Run (surveyed net r) (Surveying s) list pool → Strange s (length other) (length fresh) → GrowClause G O stands s other fresh a s' fresh' → Run (surveyed net r) (Surveying s') list pool
    counted : (net : Net M) (r : ℕ) (s : Survey) (list : List (Line L)) (pool : List (Record L)) (v k : ℕ) (a : Result ℕ SurveyRefusal) → Run (surveyed net r) (Surveying s) list pool → CountClause G O stands s list pool v k a → Run (surveyed net r) (Surveying s) list pool
    counted_elsewhere : (net : Net M) (r : ℕ) (s : Survey) (list other : List (Line L)) (pool fresh : List (Record L)) (v k : ℕ) (a : Result ℕ SurveyRefusal) → Run (surveyed net r) (Surveying s) list pool → Strange s (length other) (length fresh) → CountClause G O stands s other fresh v k a → Run (surveyed net r) (Surveying s) list pool
    membered : (net : Net M) (r : ℕ) (s : Survey) (list : List (Line L)) (pool : List (Record L)) (v k i : ℕ) (a : Result (Junction L) SurveyRefusal) → Run (surveyed net r) (Surveying s) list pool → MemberClause G O stands s list pool v k i a → Run (surveyed net r) (Surveying s) list pool
    membered_elsewhere : (net : Net M) (r : ℕ) (s : Survey) (list other : List (Line L)) (pool fresh : List (Record L)) (v k i : ℕ) (a : Result (Junction L) SurveyRefusal) → Run (surveyed net r) (Surveying s) list pool → Strange s (length other) (length fresh) → MemberClause G O stands s other fresh v k i a → Run (surveyed net r) (Surveying s) list pool
    nexted : (net : Net M) (r : ℕ) (s : Survey) (list : List (Line L)) (pool : List (Record L)) (v k : ℕ) (floor : Junction L) (a : Result (Option (Junction L)) SurveyRefusal) → Run (surveyed net r) (Surveying s) list pool → NextClause G O stands s list pool v k floor a → Run (surveyed net r) (Surveying s) list pool
    nexted_elsewhere : (net : Net M) (r : ℕ) (s : Survey) (list other : List (Line L)) (pool fresh : List (Record L)) (v k : ℕ) (floor : Junction L) (a : Result (Option (Junction L)) SurveyRefusal) → Run (surveyed net r) (Surveying s) list pool → Strange s (length other) (length fresh) → NextClause G O stands s other fresh v k floor a → Run (surveyed net r) (Surveying s) list pool
    measured : (net : Net M) (r : ℕ) (s : Survey) (list : List (Line L)) (pool : List (Record L)) (v : ℕ) (j : Junction L) (a : Result (Option ℕ) SurveyRefusal) → Run (surveyed net r) (Surveying s) list pool → DistanceClause G O stands s list pool v j a → Run (surveyed net r) (Surveying s) list pool
    measured_elsewhere : (net : Net M) (r : ℕ) (s : Survey) (list other : List (Line L)) (pool fresh : List (Record L)) (v : ℕ) (j : Junction L) (a : Result (Option ℕ) SurveyRefusal) → Run (surveyed net r) (Surveying s) list pool → Strange s (length other) (length fresh) → DistanceClause G O stands s other fresh v j a → Run (surveyed net r) (Surveying s) list pool
    reopened : (net : Net M) (r : ℕ) (s : Survey) (list : List (Line L)) (pool : List (Record L)) (a : Result Draft (SurveyRefusal × Survey)) → Run (surveyed net r) (Surveying s) list pool → ReopenClause G O stands s list pool a → Run (after_reopen net r a) (held_reopened a) list pool
    reopened_elsewhere : (net : Net M) (r : ℕ) (s : Survey) (list other : List (Line L)) (pool fresh : List (Record L)) (a : Result Draft (SurveyRefusal × Survey)) → Run (surveyed net r) (Surveying s) list pool → Strange s (length other) (length fresh) → ReopenClause G O stands s other fresh a → Run (surveyed net r) (held_reopened a) list pool

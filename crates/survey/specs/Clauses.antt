-- What each call on a survey answers and leaves. Assumes nothing.
use Rattle.std.specs.Prelude.{◌≡◌, ℕ, suc, ◌<◌, ◌≤◌, Bool, false, List, length, Some, None, MatchBool, Option, Result}
use Rattle.std.specs.declared.cmp.Ordering.TheVariants.{Less}
use Rattle.label.specs.Group.{Group}
use Rattle.label.specs.Order.{Order}
use Rattle.mesh.specs.Distance.{Distance, Within}
use Rattle.mesh.specs.Drawn.{Drawn}
use Rattle.mesh.specs.Exactly.{Many}
use Rattle.mesh.specs.Junction as mesh
use Rattle.mesh.specs.JunctionOrder.{junction_order}
use Rattle.mesh.specs.Link.{Link}
use Rattle.mesh.specs.Net.{Net}
use Rattle.mesh.specs.Shell.{Shell}
use Rattle.net.specs.Model.{net_of}
use Rattle.net.specs.Verdict.{Settled}
use Rattle.net.specs.declared.records.Line.{Line}
use Rattle.net.specs.declared.drafts.Draft.{Draft}
use Rattle.growth.specs.Surveyed.{Balls}
use Rattle.survey.specs.Found.{junction_of}
use Rattle.survey.specs.Owns.{Owns, size_of}
use Rattle.survey.specs.Rules.{Strange, SealBreaks, seal_rules, GrowBreaks, grow_rules, reopen_rules, ShellBreaks, shell_rules, member_rules, DistanceBreaks, distance_rules, SettledBack}
use Rattle.survey.specs.declared.records.Junction.{Junction}
use Rattle.survey.specs.declared.records.Record.{Record}
use Rattle.survey.specs.declared.surveys.Survey.{Survey}
use Rattle.survey.specs.declared.refusals.SurveyRefusal.{SurveyRefusal}

module _ {L M : Type 0} (G : Group M) (O : Order M) (stands : L → M) where
  -- a survey of radius 0 of the draft's net, over the pool as it was lent
  pub record Sealed (d : Draft) (list : List (Line L)) (pool : List (Record L)) (s : Survey) (pool' : List (Record L)) : Type 0 where
    pub draft : s.draft ≡ d
    pub radius : s.radius ≡ 0
    pub room : s.room ≡ length pool
    pub long : length pool' ≡ length pool
    pub owns : Drawn G (net_of stands d list) → Owns G O stands s list pool'

  -- the answer of `seal`, for every draft, list and pool
  abbrev pub SealClause : Draft → List (Line L) → List (Record L) → Result Survey (SurveyRefusal × Draft) → List (Record L) → Type 0
  SealClause d list pool r pool' =
      SettledBack (SealBreaks d (length list) (length pool)) seal_rules (λ s. Sealed d list pool s pool') (λ b. (b ≡ d) × (pool' ≡ pool)) r

  -- the answer of `reopen`: the draft that was sealed
  abbrev pub ReopenClause : Survey → List (Line L) → List (Record L) → Result Draft (SurveyRefusal × Survey) → Type 0
  ReopenClause s list pool r =
      SettledBack (GrowBreaks s (length list) (length pool) false) reopen_rules (λ d. d ≡ s.draft) (λ b. b ≡ s) r

  -- a grown survey: the radius is one more
  pub record Grew (s s' : Survey) : Type 0 where
    pub draft : s'.draft ≡ s.draft
    pub radius : s'.radius ≡ suc s.radius
    pub room : s'.room ≡ s.room

  -- the answer of `grow`; with own memory the records ran out exactly if the next balls outnumber them, and the memory is own again
  pub record GrowClause (s : Survey) (list : List (Line L)) (pool : List (Record L)) (r : Result Unit SurveyRefusal) (s' : Survey) (pool' : List (Record L)) : Type 0 where
    pub short : Bool
    pub answer : Settled (GrowBreaks s (length list) (length pool) short) grow_rules (λ _. Grew s s') (s' ≡ s) r
    pub long : length pool' ≡ length pool
    pub untouched : Strange s (length list) (length pool) → pool' ≡ pool
    pub at_most : 16 ≤ s.radius → pool' ≡ pool
    pub room : Owns G O stands s list pool → s.radius < 16 → (total : ℕ) × Balls G (net_of stands s.draft list) (suc s.radius) total × MatchBool short (length pool < total) (total ≤ length pool)
    pub owns : Owns G O stands s list pool → Owns G O stands s' list pool'

  -- the answer of `count`: how many junctions are in the shell
  abbrev pub CountClause : Survey → List (Line L) → List (Record L) → (v k : ℕ) → Result ℕ SurveyRefusal → Type 0
  CountClause s list pool v k r =
      Settled (ShellBreaks s (length list) (length pool) v k 0) shell_rules
      (λ n. (n ≡ size_of s v k) × (Owns G O stands s list pool → Many (Shell G (net_of stands s.draft list) v k) n)) (Unit {0}) r

  -- b comes before c in the order of junctions
  abbrev pub Before : mesh.Junction M → mesh.Junction M → Type 0
  Before b c = (junction_order O).cmp b c ≡ Less

  -- a junction of the shell, with exactly i others of the shell before it
  pub record Member (net : Net M) (v k i : ℕ) (b : mesh.Junction M) : Type 0 where
    pub in_shell : Shell G net v k b
    pub before : Many (λ c. Shell G net v k c × Before c b) i

  -- the answer of `member`
  abbrev pub MemberClause : Survey → List (Line L) → List (Record L) → (v k i : ℕ) → Result (Junction L) SurveyRefusal → Type 0
  MemberClause s list pool v k i r =
      Settled (ShellBreaks s (length list) (length pool) v k i) member_rules
      (λ j. Owns G O stands s list pool → Member (net_of stands s.draft list) v k i (junction_of stands j)) (Unit {0}) r

  -- the least junction of the shell after the floor, if there is one
  abbrev pub Next : Net M → (v k : ℕ) → mesh.Junction M → Option (Junction L) → Type 0
  Next net v k floor None = (c : mesh.Junction M) → Shell G net v k c → Before floor c → ⊥
  Next net v k floor (Some j) =
      Shell G net v k (junction_of stands j) × Before floor (junction_of stands j) × ((c : mesh.Junction M) → Shell G net v k c → Before floor c → Before c (junction_of stands j) → ⊥)

  -- the answer of `next_member`
  abbrev pub NextClause : Survey → List (Line L) → List (Record L) → (v k : ℕ) → Junction L → Result (Option (Junction L)) SurveyRefusal → Type 0
  NextClause s list pool v k floor r =
      Settled (ShellBreaks s (length list) (length pool) v k 0) shell_rules
      (λ o. Owns G O stands s list pool → Next (net_of stands s.draft list) v k (junction_of stands floor) o) (Unit {0}) r

  -- the junction is that far from the home of v, and within the radius; or it is farther off, or on no walk
  abbrev pub Reaches : Net M → (r v : ℕ) → mesh.Junction M → Option ℕ → Type 0
  Reaches net r v b (Some k) = (k ≤ r) × Distance (Link G net) k (mesh.home G v) b
  Reaches net r v b None = Within (Link G net) r (mesh.home G v) b → ⊥

  -- the answer of `distance`
  abbrev pub DistanceClause : Survey → List (Line L) → List (Record L) → (v : ℕ) → Junction L → Result (Option ℕ) SurveyRefusal → Type 0
  DistanceClause s list pool v j r =
      Settled (DistanceBreaks s (length list) (length pool) v j.node) distance_rules
      (λ a. Owns G O stands s list pool → Reaches (net_of stands s.draft list) s.radius v (junction_of stands j) a) (Unit {0}) r

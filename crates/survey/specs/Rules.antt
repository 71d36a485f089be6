-- The rules of sealing, growing and asking by their refusals, and the order in which they are checked. Assumes nothing.
use Rattle.std.specs.Prelude.{◌≡◌, ℕ, ◌<◌, ◌≤◌, Bool, true, ◌≢◌, ◌⊎◌, List, [], ◌∷◌, Ok, Err, Result}
use Rattle.net.specs.Verdict.{NoneOf, First}
use Rattle.net.specs.declared.drafts.Draft.{Draft}
use Rattle.survey.specs.Owns.{size_of}
use Rattle.survey.specs.declared.surveys.Survey.{Survey}
use Rattle.survey.specs.declared.refusals.SurveyRefusal.{SurveyRefusal}
use Rattle.survey.specs.declared.refusals.SurveyRefusal.TheVariants as refusal

-- so many lines and records are lent, and not as many as at opening and sealing
abbrev pub Strange : Survey → (lines records : ℕ) → Type 0
Strange s lines records = (lines ≢ s.draft.room) ⊎ (records ≢ s.room)

-- the rules of sealing a draft
abbrev pub SealBreaks : Draft → (lines records : ℕ) → SurveyRefusal → Type 0
SealBreaks d lines records refusal.OtherLength = lines ≢ d.room
SealBreaks d lines records refusal.PoolSize = (records < d.nodes) ⊎ (65535 < records)
SealBreaks d lines records refusal.NoSuchNode = ⊥
SealBreaks d lines records refusal.RadiusFull = ⊥
SealBreaks d lines records refusal.PoolFull = ⊥
SealBreaks d lines records refusal.BeyondRadius = ⊥
SealBreaks d lines records refusal.NoSuchMember = ⊥

abbrev pub seal_rules : List SurveyRefusal
seal_rules = refusal.OtherLength ∷ refusal.PoolSize ∷ []

-- the rules of reopening and of growing, where `short` tells whether the records ran out
abbrev pub GrowBreaks : Survey → (lines records : ℕ) → Bool → SurveyRefusal → Type 0
GrowBreaks s lines records short refusal.OtherLength = Strange s lines records
GrowBreaks s lines records short refusal.RadiusFull = 16 ≤ s.radius
GrowBreaks s lines records short refusal.PoolFull = short ≡ true
GrowBreaks s lines records short refusal.NoSuchNode = ⊥
GrowBreaks s lines records short refusal.PoolSize = ⊥
GrowBreaks s lines records short refusal.BeyondRadius = ⊥
GrowBreaks s lines records short refusal.NoSuchMember = ⊥

abbrev pub reopen_rules : List SurveyRefusal
reopen_rules = refusal.OtherLength ∷ []

abbrev pub grow_rules : List SurveyRefusal
grow_rules = refusal.OtherLength ∷ refusal.RadiusFull ∷ refusal.PoolFull ∷ []

-- the rules of asking for the shell k of the node v, and for its member with i others below
abbrev pub ShellBreaks : Survey → (lines records v k i : ℕ) → SurveyRefusal → Type 0
ShellBreaks s lines records v k i refusal.OtherLength = Strange s lines records
ShellBreaks s lines records v k i refusal.NoSuchNode = s.draft.nodes ≤ v
ShellBreaks s lines records v k i refusal.BeyondRadius = s.radius < k
ShellBreaks s lines records v k i refusal.NoSuchMember = size_of s v k ≤ i
ShellBreaks s lines records v k i refusal.PoolSize = ⊥
ShellBreaks s lines records v k i refusal.RadiusFull = ⊥
ShellBreaks s lines records v k i refusal.PoolFull = ⊥

abbrev pub shell_rules : List SurveyRefusal
shell_rules = refusal.OtherLength ∷ refusal.NoSuchNode ∷ refusal.BeyondRadius ∷ []

abbrev pub member_rules : List SurveyRefusal
member_rules = refusal.OtherLength ∷ refusal.NoSuchNode ∷ refusal.BeyondRadius ∷ refusal.NoSuchMember ∷ []

-- the rules of asking for the distance of a junction of the node w from the home of v
abbrev pub DistanceBreaks : Survey → (lines records v w : ℕ) → SurveyRefusal → Type 0
DistanceBreaks s lines records v w refusal.OtherLength = Strange s lines records
DistanceBreaks s lines records v w refusal.NoSuchNode = (s.draft.nodes ≤ v) ⊎ (s.draft.nodes ≤ w)
DistanceBreaks s lines records v w refusal.PoolSize = ⊥
DistanceBreaks s lines records v w refusal.RadiusFull = ⊥
DistanceBreaks s lines records v w refusal.PoolFull = ⊥
DistanceBreaks s lines records v w refusal.BeyondRadius = ⊥
DistanceBreaks s lines records v w refusal.NoSuchMember = ⊥

abbrev pub distance_rules : List SurveyRefusal
distance_rules = refusal.OtherLength ∷ refusal.NoSuchNode ∷ []

-- as Settled, of a call that takes a value and hands it back with a refusal
abbrev pub SettledBack : {E Y Z : Type 0} → (E → Type 0) → List E → (Y → Type 0) → (Z → Type 0) → Result Y (E × Z) → Type 0
SettledBack Broken rules Done Back (Ok y) = NoneOf Broken rules × Done y
SettledBack Broken rules Done Back (Err b) = First Broken b.0 rules × Back b.1

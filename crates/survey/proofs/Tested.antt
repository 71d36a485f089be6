-- What a test refuses, and what it lets pass.
use Rattle.std.proofs.Common.{◌≡◌, ℕ, List, Result, is_err, IsErrAnd, inl, inr}
use Rattle.std.proofs.lemmas.Result.{err_from_is_err_and}
use Rattle.net.specs.Verdict.{First, Settled}
use Rattle.survey.specs.Rules.{Strange}
use Rattle.survey.specs.declared.surveys.Survey.{Survey}

-- memory of the lengths of opening and sealing is not strange
pub lent_known : (s : Survey) (lines records : ℕ) → (lines ≡ s.draft.room) × (records ≡ s.room) → Strange s lines records → ⊥
lent_known s lines records e (inl n) = n e.0
lent_known s lines records e (inr n) = n e.1

-- a call that passes on a test's refusal
pub refused : {E Y : Type 0} (Broken : E → Type 0) (rules : List E) (Done : Y → Type 0) (Kept : Type 0) (r : Result Y E) (x : E) → IsErrAnd r (λ e. e ≡ x) → First Broken x rules → Kept → Settled Broken rules Done Kept r
refused Broken rules Done Kept r x is_err f k = let p = err_from_is_err_and r is_err in rw (p.1, p.2) (f, k)

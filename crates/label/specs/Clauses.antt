-- What reading and writing a label answer, in the words of the written form. Assumes nothing.
use Rattle.std.specs.Prelude.{◌≡◌, ℕ, Bool, true, false, List, ℤ, Some, None, Ok, Err, Option, Result, MatchResult}
use Rattle.std.specs.List.{slice_get}
use Rattle.label.specs.Form.{Form, in_range}
use Rattle.label.specs.declared.refusals.LabelFault.{LabelFault}
use Rattle.label.specs.declared.refusals.LabelFault.TheVariants.{OutOfRange, NoPermutation}
use Rattle.label.specs.declared.refusals.NoWrittenForm.{NoWrittenForm}

-- an answer of reading, where it is known whether the numbers are in range and which label they stand for
abbrev pub ReadAs : {L M : Type 0} → (L → M) → Bool → Option M → Result L LabelFault → Type 0
ReadAs stands false o r = r ≡ Err OutOfRange
ReadAs stands true None r = r ≡ Err NoPermutation
ReadAs stands true (Some m) r = MatchResult r (λ l. stands l ≡ m) (λ _. ⊥)

-- numbers out of range are refused as such; numbers in range that stand for no label are no permutation; others give their label
abbrev pub ReadClause : {L M : Type 0} → Form M → (L → M) → List ℤ → Result L LabelFault → Type 0
ReadClause F stands xs r = ReadAs stands (in_range F xs) (F.means xs) r

-- the number at a place of the label's written form, none past its end; a label that no numbers stand for is refused
abbrev pub written_at : Option (List ℤ) → ℕ → Result (Option ℤ) NoWrittenForm
written_at None i = Err (record {})
written_at (Some xs) i = Ok (slice_get xs i)

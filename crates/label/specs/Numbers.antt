-- The number that each refusal of the label layer has. Assumes nothing.
use Rattle.std.specs.Prelude.{ℕ}
use Rattle.label.specs.declared.refusals.LabelFault.{LabelFault}
use Rattle.label.specs.declared.refusals.LabelFault.TheVariants.{OutOfRange, NoPermutation}
use Rattle.label.specs.declared.refusals.NoWrittenForm.{NoWrittenForm}

abbrev pub label_number : LabelFault → ℕ
label_number OutOfRange = 4
label_number NoPermutation = 5

abbrev pub unwritten_number : NoWrittenForm → ℕ
unwritten_number f = 31

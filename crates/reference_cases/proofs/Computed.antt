-- The reference cases: the shells are counted already; bytes and rules are computed.
use Rattle.std.proofs.Common.{refl, lit≤}
use Rattle.reference_cases.specs.ReferenceLaws.{ReferenceLaws}
use Rattle.reference_shells.proofs.Computed.{reference_laws as shell_laws}
use Rattle.sheet.specs.Stored.{stored, zero_second}
use Rattle.sheet.specs.Faults.{malformed}
use Rattle.reference_cases.proofs.Refusals.{past_range, long_zero_only, involution_refused}

pub reference_laws : ReferenceLaws
unfolding stored
reference_laws = record {
  shells = shell_laws;
  least_bytes = refl;
  most_bytes = refl;
  past_range = past_range;
  past_range_number = λ place. refl;
  long_zero = λ place end rest. malformed (zero_second (lit≤ tt));
  long_zero_only = long_zero_only;
  long_zero_number = refl;
  involution_refused = involution_refused;
  involution_number = refl;
}

use Rattle.std.proofs.Common.{◌≡◌, length, vec_items}
use Rattle.report.specs.Hex.{hex}
use Rattle.report.proofs.Reading.{after}
use Rattle.report.proofs.hex.hex_bytes.Given as goal

-- the bytes so far, and after them those of the text that is left
abbrev pub invariant-loop-high : goal.invariant-loop-high
invariant-loop-high l = hex l.text ≡ after (vec_items l.bytes) (hex l.rest)

abbrev pub decreases-loop-high : goal.decreases-loop-high
decreases-loop-high l = length l.rest

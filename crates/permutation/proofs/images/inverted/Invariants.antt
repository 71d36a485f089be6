use Rattle.std.proofs.Common.{◌≡◌, ℕ, ◌<◌, length, get_or}
use Rattle.permutation.proofs.images.inverted.Given as goal

abbrev pub invariant-loop-point : goal.invariant-loop-point
invariant-loop-point l = (length l.inverse ≡ 8) × ((k : ℕ) → k < l.point → get_or l.inverse (get_or l.images k 0) 0 ≡ k)

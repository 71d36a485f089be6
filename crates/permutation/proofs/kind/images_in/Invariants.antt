use Rattle.std.proofs.Common.{◌≡◌, ℕ, ◌<◌, length, get_or, pos}
use Rattle.permutation.proofs.kind.images_in.Given as goal

abbrev pub invariant-loop-i : goal.invariant-loop-i
invariant-loop-i l = (length l.images ≡ 8) × ((k : ℕ) → k < l.i → (get_or l.numbers k (pos 0) ≡ pos (get_or l.images k 0)) × (get_or l.images k 0 < 8))

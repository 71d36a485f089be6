use Rattle.std.proofs.Common.{◌≡◌, ℕ, ◌<◌, ◌≤◌, length, get_or}
use Rattle.permutation.proofs.images.composed.Given as goal

-- the images so far, and after them the points that are left
abbrev pub invariant-loop-image : goal.invariant-loop-image
invariant-loop-image l =
    (length l.image-items ≡ 8) × ((k : ℕ) → k < l.image-index → get_or l.image-items k 0 ≡ get_or l.second (get_or l.first k 0) 0)
    × ((k : ℕ) → l.image-index ≤ k → get_or l.image-items k 0 ≡ get_or l.first k 0)

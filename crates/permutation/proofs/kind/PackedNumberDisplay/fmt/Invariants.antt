use Rattle.std.proofs.Common.{◌∷◌, decimal, take}
use Rattle.std.specs.List.{flat_map}
use Rattle.std.specs.Fmt.{HasWritten, IsPlainFormatter}
use Rattle.permutation.proofs.kind.PackedNumberDisplay.fmt.Given as goal

abbrev pub invariant-loop-image : goal.invariant-loop-image
invariant-loop-image g l =
    IsPlainFormatter l.initial.f → HasWritten g.W.Write.write_str_gives l.initial.f (flat_map (λ x. 32 ∷ decimal x) (take l.image-index l.image-items)) l.f

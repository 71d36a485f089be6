use Rattle.std.proofs.Common.{ap, ◌∙◌}
use Rattle.permutation.specs.Permutations.{inv}
use Rattle.permutation.proofs.kind.PackedNumberLabel.inverse.Goals as goal

pub returns : goal.returns
returns c = c.into.ensures.0 ∙ c.inverse.ensures ∙ ap inv c.from.ensures

use Rattle.std.proofs.Common.{sym, ◌∙◌}
use Rattle.symmetric.proofs.Laws.{perm_same}
use Rattle.symmetric.proofs.Packed.{chosen_packed, chosen_else}
use Rattle.permutation.proofs.operations.PackedPermutationFromPackedNumber.from.Goals as goal

pub returns-then-packs_one : goal.returns-then-packs_one
returns-then-packs_one c = perm_same _ _ (sym (chosen_packed c.args.number.0 (sym c.packs_one.ensures ∙ c.if-packs_one.true)))

pub returns : goal.returns
returns c = c.identity.ensures ∙ perm_same _ _ (sym (chosen_else c.args.number.0 (sym c.packs_one.ensures ∙ c.if-packs_one.false)))

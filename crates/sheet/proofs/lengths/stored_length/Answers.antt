use Rattle.std.proofs.Common.{arith}
use Rattle.sheet.proofs.Sizes.{length_by_sevens}
use Rattle.sheet.proofs.lengths.stored_length.Goals as goal

pub returns : goal.returns
returns c = omega (arith, c.clamp.ensures, length_by_sevens c.args.n c.ranges.n.fits)

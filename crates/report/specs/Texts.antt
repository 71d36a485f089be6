-- The text of a pair of a translation and a permutation. Assumes nothing.
use Rattle.std.specs.Prelude.{ℕ, List}
use Rattle.label.specs.PairText.{with_blank}
use Rattle.label.specs.declared.pairs.Pair.{Pair}
use Rattle.lattice.specs.Texts.{translation_text}
use Rattle.lattice.specs.declared.translations.Translation.{Translation}
use Rattle.permutation.specs.Texts.{permutation_text}
use Rattle.permutation.specs.declared.packed.PackedNumber.{PackedNumber}

-- the two parts
abbrev pub pair_text : Pair Translation PackedNumber → List ℕ
pair_text p = with_blank (translation_text p.first) (permutation_text p.second)

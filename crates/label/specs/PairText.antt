-- A pair of labels as text. Assumes nothing.
use Rattle.std.specs.Prelude.{ℕ, List, ◌++◌, Option, codes}
use Rattle.label.specs.PairForm.{with_both}

-- one text, a blank, and another
abbrev pub with_blank : List ℕ → List ℕ → List ℕ
with_blank a b = a ++ (codes " " ++ b)

-- the two parts, where both have a text
abbrev pub both_texts : Option (List ℕ) → Option (List ℕ) → Option (List ℕ)
both_texts a b = with_both with_blank a b

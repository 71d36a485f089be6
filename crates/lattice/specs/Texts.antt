-- Translations and screws as text. Assumes nothing.
use Rattle.std.specs.Prelude.{ℕ, List, ◌++◌, codes}
use Rattle.std.specs.Fmt.{signed_decimal}
use Rattle.lattice.specs.declared.translations.Translation.{Translation}
use Rattle.lattice.specs.declared.screws.Screw.{Screw}

-- the three coordinates
abbrev pub translation_text : Translation → List ℕ
translation_text t = codes "(" ++ (signed_decimal t.x ++ (codes ", " ++ (signed_decimal t.y ++ (codes ", " ++ (signed_decimal t.z ++ codes ")")))))

-- the place, and then the climb
abbrev pub screw_text : Screw → List ℕ
screw_text t = codes "(" ++ (signed_decimal t.x ++ (codes ", " ++ (signed_decimal t.y ++ (codes ") climb " ++ signed_decimal t.k))))

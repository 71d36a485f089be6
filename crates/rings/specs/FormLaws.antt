-- What is proved of standard forms. Assumes nothing.
use Rattle.std.specs.Prelude.{◌≡◌, ℕ, List, ◌≢◌}
use Rattle.rings.specs.SameRing.{SameRing}
use Rattle.rings.specs.Through.{Through}
use Rattle.rings.specs.Standard.{Standard}

-- a ring through two different links at a junction is the same ring as exactly one list in standard form
pub record FormLaws {J : Type 0} (Link : J → J → Type 0) : Type 0 where
  -- it is the same as one
  pub exists : (L : ℕ) (o x y : J) → (x ≢ y) → (c : List J) → Through Link L o x y c → (d : List J) × Standard Link L o x y d × SameRing c d
  -- and as no other
  pub unique : (L : ℕ) (o x y : J) (c d e : List J) → Standard Link L o x y d → Standard Link L o x y e → SameRing c d → SameRing c e → d ≡ e
  -- and what is in standard form is a ring through both links
  pub through : (L : ℕ) (o x y : J) (c : List J) → Standard Link L o x y c → Through Link L o x y c

-- What a cover keeps of rings. Assumes nothing.
use Rattle.std.specs.Prelude.{◌≡◌, ℕ, ◌≤◌, ◌↔◌, List, map, length}
use Rattle.rings.specs.Ring.{Ring}
use Rattle.rings.specs.SameRing.{SameRing}
use Rattle.rings.specs.Through.{Through}
use Rattle.rings.specs.Standard.{Standard}
use Rattle.rings.specs.RingsOf.{RingsOf}

-- the laws of the rings of a cover up to R links
pub record RingCoverLaws {J J' : Type 0} (Link : J → J → Type 0) (Link' : J' → J' → Type 0) (f : J → J') (R : ℕ) : Type 0 where
  -- a ring no longer than R goes to a ring
  pub rings : (c : List J) → length c ≤ R → Ring Link c → Ring Link' (map f c)
  -- one through two links at o goes to one through the two links at f o, and each of these is that of one
  pub through : (L : ℕ) (o x y : J) (c : List J) → L ≤ R → Through Link L o x y c → Through Link' L (f o) (f x) (f y) (map f c)
  pub through_lifts : (L : ℕ) (o x y : J) (c' : List J') → L ≤ R → Link o x → Link o y → Through Link' L (f o) (f x) (f y) c' → (c : List J) × Through Link L o x y c × (map f c ≡ c')
  -- the same of standard forms
  pub standard : (L : ℕ) (o x y : J) (c : List J) → L ≤ R → Standard Link L o x y c → Standard Link' L (f o) (f x) (f y) (map f c)
  pub standard_lifts : (L : ℕ) (o x y : J) (c' : List J') → L ≤ R → Link o x → Link o y → Standard Link' L (f o) (f x) (f y) c' → (c : List J) × Standard Link L o x y c × (map f c ≡ c')
  -- two rings through the links are the same exactly if those are to which they go
  pub same : (L : ℕ) (o x y : J) (c d : List J) → L ≤ R → Through Link L o x y c → Through Link L o x y d → SameRing c d ↔ SameRing (map f c) (map f d)
  -- as many rings go through two links at o as through the two links at f o
  pub ring_numbers : (L : ℕ) (o x y : J) (n : ℕ) → L ≤ R → Link o x → Link o y → RingsOf Link L o x y n ↔ RingsOf Link' L (f o) (f x) (f y) n

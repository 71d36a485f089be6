-- Bytes as hexadecimal text. Assumes nothing.
use Rattle.std.specs.Prelude.{ℕ, ◌+◌, ◌-◌, ◌*◌, Bool, cond, ◌&&◌, ◌||◌, List, [], ◌∷◌, Some, None, Option, ◌==◌, nat_le}

-- a space, a tab, or the end of a line
abbrev pub blank : ℕ → Bool
blank c = c == 32 || (c == 9 || (c == 13 || c == 10))

-- the value of a digit: 0 to 9, a to f, or A to F
abbrev pub digit : ℕ → Option ℕ
digit c =
    cond (nat_le 48 c && nat_le c 57) (Some (c - 48))
    (cond (nat_le 97 c && nat_le c 102) (Some (c - 97 + 10))
    (cond (nat_le 65 c && nat_le c 70) (Some (c - 65 + 10)) None))

-- the byte that two digits stand for
abbrev pub byte_of : Option ℕ → Option ℕ → Option ℕ
byte_of (Some x) (Some y) = Some (16 * x + y)
byte_of (Some x) None = None
byte_of None y = None

-- a byte before others
abbrev pub then_bytes : Option ℕ → Option (List ℕ) → Option (List ℕ)
then_bytes (Some b) (Some bs) = Some (b ∷ bs)
then_bytes (Some b) None = None
then_bytes None bs = None

-- the bytes that a text stands for: two digits a byte, with blanks before, between and after bytes; none where it is no such text
unfoldable pub hex : List ℕ → Option (List ℕ)
hex [] = Some []
hex (c ∷ []) = cond (blank c) (Some []) None
hex (c ∷ d ∷ cs) = cond (blank c) (hex (d ∷ cs)) (then_bytes (byte_of (digit c) (digit d)) (hex cs))

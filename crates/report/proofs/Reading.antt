-- A hexadecimal text is read from its front.
use Rattle.std.proofs.Common.{◌≡◌, ℕ, true, false, List, [], ◌∷◌, ◌++◌, length, Some, None, Option, refl, append_assoc, arith}
use Rattle.report.specs.Hex.{blank, digit, byte_of, then_bytes, hex}

-- bytes, and after them those that are there
abbrev pub after : List ℕ → Option (List ℕ) → Option (List ℕ)
after bs (Some cs) = Some (bs ++ cs)
after bs None = None

pub after_byte : (bs more : List ℕ) (b : ℕ) (o : Option (List ℕ)) → more ≡ bs ++ (b ∷ []) → after bs (then_bytes (Some b) o) ≡ after more o
after_byte bs more b (Some cs) e = rw (e, append_assoc)
after_byte bs more b None e = refl

pub hex_nothing : (s : List ℕ) → length s ≡ 0 → hex s ≡ Some []
unfolding hex
hex_nothing [] e = refl
hex_nothing (c ∷ cs) e = absurd (omega arith)

pub hex_blank : (c : ℕ) (cs : List ℕ) → blank c ≡ true → hex (c ∷ cs) ≡ hex cs
unfolding hex
hex_blank c [] e = rw e
hex_blank c (d ∷ cs) e = rw e

pub hex_odd : (c : ℕ) (cs : List ℕ) → length cs ≡ 0 → blank c ≡ false → hex (c ∷ cs) ≡ None
unfolding hex
hex_odd c [] n e = rw e
hex_odd c (d ∷ cs) n e = absurd (omega arith)

pub hex_two : (c d : ℕ) (cs : List ℕ) → blank c ≡ false → hex (c ∷ d ∷ cs) ≡ then_bytes (byte_of (digit c) (digit d)) (hex cs)
unfolding hex
hex_two c d cs e = rw e

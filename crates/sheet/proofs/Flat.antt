-- Lists of one length, one after another: how long they are, and their elements by index.
use Rattle.std.proofs.Common.{◌≡◌, ℕ, zero, suc, ◌+◌, ◌*◌, ◌<◌, List, [], ◌∷◌, ◌++◌, length, get_or, Some, sym, ap, ◌∙◌, suc-mul, zero-mul, arith, length-append}
use Rattle.std.proofs.lemmas.List.{get_or_append_left, get_or-append-add}
use Rattle.std.specs.List.{flat_map, slice_get}
use Rattle.std.proofs.lemmas.Option.{none-some, same_Some}

module _ {X Y : Type 0} (f : X → List Y) (w : ℕ) where
  -- each list has length w
  abbrev pub Even : List X → Type 0
  Even [] = Unit {0}
  Even (x ∷ xs) = (length (f x) ≡ w) × Even xs

  pub joined_length : (xs : List X) → Even xs → length (flat_map f xs) ≡ length xs * w
  joined_length [] e = sym (zero-mul w)
  joined_length (x ∷ xs) e =
      let rest = joined_length xs e.1 in
      let here = e.0 in
      length-append (f x) (flat_map f xs) ∙ (let z : length (f x) + length (flat_map f xs) ≡ suc (length xs) * w = omega (arith, suc-mul (length xs) w) in z)

  pub joined_at : (xs : List X) (i k : ℕ) (x : X) (d : Y) → Even xs → slice_get xs i ≡ Some x → k < w → get_or (flat_map f xs) (i * w + k) d ≡ get_or (f x) k d
  joined_at [] i k x d e at h = absurd (none-some _ at)
  joined_at (y ∷ xs) zero k x d e at h =
      let here = e.0 in
      let first : zero * w + k ≡ k = omega (arith, zero-mul w) in
      ap (λ (n : ℕ). get_or (f y ++ flat_map f xs) n d) first ∙ get_or_append_left (f y) (flat_map f xs) d k (omega arith) ∙ ap (λ (z : X). get_or (f z) k d) (same_Some _ _ at)
  joined_at (y ∷ xs) (suc i) k x d e at h =
      let here = e.0 in
      let next : suc i * w + k ≡ length (f y) + (i * w + k) = omega (arith, suc-mul i w) in
      ap (λ (n : ℕ). get_or (f y ++ flat_map f xs) n d) next ∙ get_or-append-add (f y) (flat_map f xs) (i * w + k) d ∙ joined_at xs i k x d e.1 at h

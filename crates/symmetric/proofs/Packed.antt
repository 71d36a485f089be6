-- Packing and unpacking images.
use Rattle.std.proofs.Common.{◌≡◌, ℕ, zero, suc, ◌+◌, ◌*◌, ◌/◌, ◌%◌, ◌^◌, ◌<◌, true, false, ltb, List, [], ◌∷◌, length, refl, ap, ◌∙◌, arith, ltb-true}
use Rattle.std.proofs.lemmas.Bool.{and_parts, and_from, lt-ltb, cond-true, cond-false, cond_both}
use Rattle.symmetric.specs.Images.{points, each_once, permutes, unmoved}
use Rattle.symmetric.specs.Packing.{digits_of, digits, with_digits, packs, chosen}
use Rattle.symmetric.proofs.Laws.{permutes_from, permutes_unmoved}

-- the digits of the number with these digits
pub unpack_pack : (xs : List ℕ) → points xs ≡ true → digits_of (length xs) (with_digits xs) ≡ xs
unpack_pack [] b = refl
unpack_pack (x ∷ xs) b =
    let p = and_parts (ltb x 8) (points xs) b in
    let h : x < 8 = ltb-true x 8 p.0 in
    let r : (x + 8 * with_digits xs) % 8 ≡ x = omega arith in
    let q : (x + 8 * with_digits xs) / 8 ≡ with_digits xs = omega arith in
    ap (λ (y : ℕ). y ∷ digits_of (length xs) ((x + 8 * with_digits xs) / 8)) r ∙ ap (λ (m : ℕ). x ∷ digits_of (length xs) m) q
    ∙ ap (λ (ys : List ℕ). x ∷ ys) (unpack_pack xs p.1)

pub points_digits : (k n : ℕ) → points (digits_of k n) ≡ true
points_digits zero n = refl
points_digits (suc k) n = and_from (ltb (n % 8) 8) (points (digits_of k (n / 8))) (lt-ltb (n % 8) 8 (omega arith)) (points_digits k (n / 8))

pub permutes_digits : (n : ℕ) → packs n ≡ true → permutes (digits n) ≡ true
permutes_digits n p = permutes_from (digits n) refl (points_digits 8 n) (and_parts (ltb n (2 ^ 24)) (each_once (digits n)) p).1

pub permutes_chosen : (n : ℕ) → permutes (chosen n) ≡ true
permutes_chosen n = cond_both (packs n) (digits n) unmoved (λ (xs : List ℕ). permutes xs ≡ true) (permutes_digits n) (λ e. permutes_unmoved)

pub chosen_packed : (n : ℕ) → packs n ≡ true → chosen n ≡ digits n
chosen_packed n p = cond-true (packs n) (digits n) unmoved p

pub chosen_else : (n : ℕ) → packs n ≡ false → chosen n ≡ unmoved
chosen_else n p = cond-false (packs n) (digits n) unmoved p

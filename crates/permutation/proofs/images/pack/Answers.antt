use Rattle.std.proofs.Common.{◌≡◌, ℕ, zero, suc, ◌+◌, ◌*◌, ◌^◌, ◌%◌, ◌<◌, ◌≤◌, true, List, [], ◌∷◌, length, reverse, bit_or, sym, refl, ap, ◌∙◌, rules, tests, arith, ltb, ltb-true}
use Rattle.std.specs.List.{fold}
use Rattle.std.proofs.lemmas.Nat.{or_shifted, pow-add}
use Rattle.std.proofs.lemmas.Bool.{and_parts}
use Rattle.std.proofs.lemmas.List.Sums.{fold-append}
use Rattle.std.proofs.lemmas.List.{reverse-append}
use Rattle.std.proofs.lemmas.Iterator.Adapters.{YieldsList-from_rev_slice}
use Rattle.std.proofs.lemmas.Iterator.Consumers.{fold_from_yields_List}
use Rattle.symmetric.specs.Images.{points}
use Rattle.symmetric.specs.Packing.{with_digits, digits_of, digits}
use Rattle.symmetric.proofs.Packed.{unpack_pack}
use Rattle.permutation.proofs.images.pack.Goals as goal

-- a digit after those so far
abbrev pushed : ℕ → ℕ → ℕ
pushed n x = bit_or (n * 2 ^ 3 % 2 ^ 32) x

eight_more : (k : ℕ) → 8 ^ suc k ≡ 8 * 8 ^ k
eight_more k =
    let e : suc k ≡ 1 + k = omega arith in
    ap (λ n. 8 ^ n) e ∙ pow-add 8 1 k

below : (k : ℕ) (xs : List ℕ) → length xs ≤ k → points xs ≡ true → with_digits xs < 8 ^ k
below zero [] l p = omega arith
below zero (x ∷ xs) l p = absurd (omega arith)
below (suc k) [] l p =
    let e = eight_more k in
    let h = below k [] (omega arith) refl in
    omega arith
below (suc k) (x ∷ xs) l p =
    let e = eight_more k in
    let q = and_parts (ltb x 8) (points xs) p in
    let s : x < 8 = ltb-true x 8 q.0 in
    let h = below k xs (omega arith) q.1 in
    omega arith

pushed_is : (n x : ℕ) → n < 8 ^ 7 → x < 8 → pushed n x ≡ x + 8 * n
pushed_is n x h s =
    let whole : n * 2 ^ 3 % 2 ^ 32 ≡ n * 2 ^ 3 = omega arith in
    ap (λ m. bit_or m x) whole ∙ or_shifted n 3 x s ∙ (let e : n * 2 ^ 3 + x ≡ x + 8 * n = omega arith in e)

folded : (xs : List ℕ) → length xs ≤ 8 → points xs ≡ true → fold pushed 0 (reverse xs) ≡ with_digits xs
folded [] l p = refl
folded (x ∷ xs) l p =
    let q = and_parts (ltb x 8) (points xs) p in
    ap (fold pushed 0) (reverse-append (x ∷ []) xs) ∙ fold-append pushed 0 (reverse xs) (x ∷ []) ∙ ap (λ n. pushed n x) (folded xs (omega arith) q.1)
    ∙ pushed_is (with_digits xs) x (below 7 xs (omega arith) q.1) (ltb-true x 8 q.0)

pub returns : goal.returns
returns c =
    let xs = c.args.images.now in
    let run : c.fold.result ≡ fold pushed 0 (reverse c.args.images.now) = fold_from_yields_List _ pushed 0 c.fold.result c.fold.ensures.ran (YieldsList-from_rev_slice c.args.images.now cc) (λ a x b q k. search (rules, tests)) in
    let whole = run ∙ folded xs (omega arith) c.requires in
    let small = below 8 xs (omega arith) c.requires in
    (omega arith, ap digits whole ∙ ap (λ (k : ℕ). digits_of k (with_digits xs)) (sym c.told-images) ∙ unpack_pack xs c.requires)

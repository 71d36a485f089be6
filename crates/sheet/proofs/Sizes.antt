-- How many bytes a number takes, from its highest one bit.
use Rattle.std.proofs.Common.{◌≡◌, ℕ, ◌+◌, ◌-◌, ◌*◌, ◌/◌, ◌^◌, ◌<◌, ◌≤◌, min, max, length, ap, inl, inr, arith, pow_mono, pow-add}
use lib.Count.{count_leading_zeros}
use Rattle.std.proofs.lemmas.Nat.{leading_length}
use Rattle.std.proofs.lemmas.Bool.{cases_lt}
use Rattle.sheet.specs.Stored.{stored}
use Rattle.sheet.proofs.Groups.{stored_one, stored_two, stored_three}

pub one_byte : (n : ℕ) → n < 128 → length (stored n) ≡ 1
one_byte n h = ap length (stored_one n h)

pub two_bytes : (n : ℕ) → 128 ≤ n → n < 2 ^ 14 → length (stored n) ≡ 2
two_bytes n h k = ap length (stored_two n h k)

pub three_bytes : (n : ℕ) → 2 ^ 14 ≤ n → length (stored n) ≡ 3
three_bytes n h = ap length (stored_three n h)

pub bytes_between : (n : ℕ) → (0 < length (stored n)) × (length (stored n) ≤ 3)
bytes_between n = elim (cases_lt n 128) [
  | inl h ↦ let one = one_byte n h in (omega arith, omega arith)
  | inr h ↦ elim (cases_lt n (2 ^ 14)) [
    | inl k ↦ let two = two_bytes n h k in (omega arith, omega arith)
    | inr k ↦ let three = three_bytes n k in (omega arith, omega arith)
  ]
]

-- a number below 2 ^ k has at most k bits, and one from 2 ^ k on has more
bits_below : (n m k : ℕ) → 2 ^ m ≤ 2 * n + 1 → n < 2 ^ k → m ≤ k
bits_below n m k h l = elim (cases_lt k m) [ inl s ↦ absurd (let p : 2 ^ (k + 1) ≤ 2 ^ m = pow_mono (omega arith) in let z : ⊥ = omega (arith, pow-add 2 k 1) in z) | inr s ↦ s ]

bits_above : (n m k : ℕ) → n < 2 ^ m → 2 ^ k ≤ n → k < m
bits_above n m k h l = elim (cases_lt k m) [ inl s ↦ s | inr s ↦ absurd (let p : 2 ^ m ≤ 2 ^ k = pow_mono s in let z : ⊥ = omega arith in z) ]

pub length_by_sevens : (n : ℕ) → n < 2 ^ 32 → max 1 (min ((32 - count_leading_zeros 32 n + 6) / 7) 3) ≡ length (stored n)
length_by_sevens n fits =
    let top = leading_length 32 n fits in
    let m = top.0 in
    let zeros : count_leading_zeros 32 n + m ≡ 32 = top.1 in
    let under : n < 2 ^ m = top.2 in
    let over : 2 ^ m ≤ 2 * n + 1 = top.3 in
    elim (cases_lt n 128) [
      | inl h ↦ omega (arith, one_byte n h, bits_below n m 7 over h)
      | inr h ↦ elim (cases_lt n (2 ^ 14)) [
        | inl k ↦ omega (arith, two_bytes n h k, bits_above n m 7 under h, bits_below n m 14 over k)
        | inr k ↦ omega (arith, three_bytes n k, bits_above n m 14 under k)
      ]
    ]

-- The number at the front of bytes, or why there is none: each byte string has one answer.
use Rattle.std.proofs.Common.{◌≡◌, ℕ, ◌+◌, ◌-◌, ◌*◌, ◌/◌, ◌%◌, ◌^◌, ◌<◌, ◌≤◌, cond, ltb, List, [], ◌∷◌, ◌++◌, Ok, Err, Result, sym, refl, ap, ◌∙◌, subst, inl, inr, arith}
use Rattle.std.proofs.lemmas.Bool.{cond-true, cond-false, lt-ltb, le-ltb, cases_lt}
use Rattle.sheet.specs.Stored.{Small, stored, Cut, before, after_one, after_two, Malformed, endless, zero_second, zero_third}
use Rattle.sheet.specs.declared.faults.BytesFault.{BytesFault}
use Rattle.sheet.specs.declared.faults.BytesFault.TheVariants as bytes
use Rattle.sheet.proofs.Groups.{stored_one, stored_two, stored_three}

-- a number and the bytes that follow it, or the fault
abbrev Front : Type 0
Front = Result (ℕ × List ℕ) BytesFault

if_below : (a b : ℕ) (x y : Front) → a < b → cond (ltb a b) x y ≡ x
if_below a b x y h = cond-true (ltb a b) x y (lt-ltb a b h)

if_above : (a b : ℕ) (x y : Front) → b ≤ a → cond (ltb a b) x y ≡ y
if_above a b x y h = cond-false (ltb a b) x y (le-ltb a b h)

-- the third byte, after bytes that add to v
abbrev from_third : ℕ → List ℕ → Front
from_third v [] = Err bytes.Ends
from_third v (c ∷ bs) = cond (ltb c 1) (Err bytes.Malformed) (cond (ltb c 128) (Ok (v + 128 * (128 * c), bs)) (Err bytes.Malformed))

-- the second byte, after one that adds to v
abbrev from_second : ℕ → List ℕ → Front
from_second v [] = Err bytes.Ends
from_second v (b ∷ bs) = cond (ltb b 1) (Err bytes.Malformed) (cond (ltb b 128) (Ok (v + 128 * b, bs)) (from_third (v + 128 * (b - 128)) bs))

abbrev pub front : List ℕ → Front
front [] = Err bytes.Ends
front (a ∷ bs) = cond (ltb a 128) (Ok (a, bs)) (from_second (a - 128) bs)

more_first : (a : ℕ) (bs : List ℕ) → 128 ≤ a → front (a ∷ bs) ≡ from_second (a - 128) bs
more_first a bs h = if_above a 128 (Ok (a, bs)) (from_second (a - 128) bs) h

more_second : (v b : ℕ) (bs : List ℕ) → 128 ≤ b → from_second v (b ∷ bs) ≡ from_third (v + 128 * (b - 128)) bs
more_second v b bs h =
    let after = from_third (v + 128 * (b - 128)) bs in
    if_above b 1 (Err bytes.Malformed) (cond (ltb b 128) (Ok (v + 128 * b, bs)) after) (omega arith) ∙ if_above b 128 (Ok (v + 128 * b, bs)) after h

last_second : (v b : ℕ) (bs : List ℕ) → 1 ≤ b → b < 128 → from_second v (b ∷ bs) ≡ Ok (v + 128 * b, bs)
last_second v b bs h k =
    let after = from_third (v + 128 * (b - 128)) bs in
    if_above b 1 (Err bytes.Malformed) (cond (ltb b 128) (Ok (v + 128 * b, bs)) after) h ∙ if_below b 128 (Ok (v + 128 * b, bs)) after k

last_third : (v c : ℕ) (bs : List ℕ) → 1 ≤ c → c < 128 → from_third v (c ∷ bs) ≡ Ok (v + 128 * (128 * c), bs)
last_third v c bs h k =
    let whole : Front = Ok (v + 128 * (128 * c), bs) in
    if_above c 1 (Err bytes.Malformed) (cond (ltb c 128) whole (Err bytes.Malformed)) h ∙ if_below c 128 whole (Err bytes.Malformed) k

endless_third : (v c : ℕ) (bs : List ℕ) → 128 ≤ c → from_third v (c ∷ bs) ≡ Err bytes.Malformed
endless_third v c bs h =
    let whole : Front = Ok (v + 128 * (128 * c), bs) in
    if_above c 1 (Err bytes.Malformed) (cond (ltb c 128) whole (Err bytes.Malformed)) (omega arith) ∙ if_above c 128 whole (Err bytes.Malformed) h

pub front_cut : {bs : List ℕ} → Cut bs → front bs ≡ Err bytes.Ends
front_cut before = refl
front_cut (after_one {a = a} h) = more_first a [] h
front_cut (after_two {a = a} {b = b} h k) = more_first a (b ∷ []) h ∙ more_second (a - 128) b [] k

pub front_malformed : {bs : List ℕ} → Malformed bs → front bs ≡ Err bytes.Malformed
front_malformed (endless {a = a} {b = b} {c = c} {bs = bs} h k l) = more_first a (b ∷ c ∷ bs) h ∙ more_second (a - 128) b (c ∷ bs) k ∙ endless_third (a - 128 + 128 * (b - 128)) c bs l
front_malformed (zero_second {a = a} {bs = bs} h) = more_first a (0 ∷ bs) h
front_malformed (zero_third {a = a} {b = b} {bs = bs} h k) = more_first a (b ∷ 0 ∷ bs) h ∙ more_second (a - 128) b (0 ∷ bs) k

-- a number that is stored is read
pub front_stored : (n : ℕ) (bs : List ℕ) → Small n → front (stored n ++ bs) ≡ Ok (n, bs)
front_stored n bs small =
    let Reads : List ℕ → Type 0 = λ s. front (s ++ bs) ≡ Ok (n, bs) in
    elim (cases_lt n 128) [
      | inl h ↦ subst Reads (sym (stored_one n h)) (if_below n 128 (Ok (n, bs)) (from_second (n - 128) bs) h)
      | inr h ↦ elim (cases_lt n (2 ^ 14)) [
        | inl k ↦
            let a = 128 + n % 128 in
            let b = n / 128 in
            let whole : a - 128 + 128 * b ≡ n = omega arith in
            subst Reads (sym (stored_two n h k)) (more_first a (b ∷ bs) (omega arith) ∙ last_second (a - 128) b bs (omega arith) (omega arith) ∙ ap (λ (m : ℕ). let f : Front = Ok (m, bs) in f) whole)
        | inr k ↦
            let a = 128 + n % 128 in
            let b = 128 + n / 128 % 128 in
            let c = n / 128 / 128 % 128 in
            let whole : a - 128 + 128 * (b - 128) + 128 * (128 * c) ≡ n = omega arith in
            subst Reads (sym (stored_three n k)) (more_first a (b ∷ c ∷ bs) (omega arith) ∙ more_second (a - 128) b (c ∷ bs) (omega arith) ∙ last_third (a - 128 + 128 * (b - 128)) c bs (omega arith) (omega arith) ∙ ap (λ (m : ℕ). let f : Front = Ok (m, bs) in f) whole)
      ]
    ]

-- The stored form of a number, by how many bytes it takes.
use Rattle.std.proofs.Common.{◌≡◌, ℕ, suc, ◌+◌, ◌-◌, ◌*◌, ◌/◌, ◌%◌, ◌^◌, ◌<◌, ◌≤◌, ltb, List, [], ◌∷◌, ap, ◌∙◌, arith}
use Rattle.std.proofs.lemmas.Bool.{cond-true, cond-false, lt-ltb, le-ltb}
use Rattle.sheet.specs.Stored.{stored, groups}

-- one more group follows
groups_more : (k n : ℕ) → 128 ≤ n → groups (suc k) n ≡ (128 + n % 128) ∷ groups k (n / 128)
groups_more k n h = cond-false (ltb n 128) (n ∷ []) ((128 + n % 128) ∷ groups k (n / 128)) (le-ltb n 128 h)

groups_one : (k n : ℕ) → n < 128 → groups (suc k) n ≡ n ∷ []
groups_one k n h = cond-true (ltb n 128) (n ∷ []) ((128 + n % 128) ∷ groups k (n / 128)) (lt-ltb n 128 h)

pub stored_one : (n : ℕ) → n < 128 → stored n ≡ n ∷ []
unfolding stored
stored_one n h = groups_one 1 n h

pub stored_two : (n : ℕ) → 128 ≤ n → n < 2 ^ 14 → stored n ≡ (128 + n % 128) ∷ n / 128 ∷ []
unfolding stored
stored_two n h k = groups_more 1 n h ∙ ap (λ (q : List ℕ). (128 + n % 128) ∷ q) (groups_one 0 (n / 128) (omega arith))

pub stored_three : (n : ℕ) → 2 ^ 14 ≤ n → stored n ≡ (128 + n % 128) ∷ (128 + n / 128 % 128) ∷ n / 128 / 128 % 128 ∷ []
unfolding stored
stored_three n h = groups_more 1 n (omega arith) ∙ ap (λ (q : List ℕ). (128 + n % 128) ∷ q) (groups_more 0 (n / 128) (omega arith))

-- a byte with its top bit set, over the groups that follow
low_group : (a m : ℕ) → 128 ≤ a → a < 256 → 128 + (a - 128 + 128 * m) % 128 ≡ a
low_group a m h k = omega arith

high_groups : (a m : ℕ) → 128 ≤ a → a < 256 → (a - 128 + 128 * m) / 128 ≡ m
high_groups a m h k = omega arith

-- the number that two or three bytes store
pub bytes_two : (a b : ℕ) → 128 ≤ a → a < 256 → 1 ≤ b → b < 128 → stored (a - 128 + 128 * b) ≡ a ∷ b ∷ []
bytes_two a b h₁ h₂ h₃ h₄ =
    let n = a - 128 + 128 * b in
    stored_two n (omega arith) (omega arith) ∙ ap (λ (x : ℕ). x ∷ n / 128 ∷ []) (low_group a b h₁ h₂) ∙ ap (λ (y : ℕ). a ∷ y ∷ []) (high_groups a b h₁ h₂)

pub bytes_three : (a b c : ℕ) → 128 ≤ a → a < 256 → 128 ≤ b → b < 256 → 1 ≤ c → c < 128 → stored (a - 128 + 128 * (b - 128 + 128 * c)) ≡ a ∷ b ∷ c ∷ []
bytes_three a b c h₁ h₂ h₃ h₄ h₅ h₆ =
    let m = b - 128 + 128 * c in
    let n = a - 128 + 128 * m in
    let rest : n / 128 ≡ m = high_groups a m h₁ h₂ in
    let last : c % 128 ≡ c = omega arith in
    let middle : 128 + n / 128 % 128 ≡ b = ap (λ (x : ℕ). 128 + x % 128) rest ∙ low_group b c h₃ h₄ in
    let high : n / 128 / 128 % 128 ≡ c = ap (λ (x : ℕ). x / 128 % 128) rest ∙ ap (λ (x : ℕ). x % 128) (high_groups b c h₃ h₄) ∙ last in
    stored_three n (omega arith) ∙ ap (λ (x : ℕ). x ∷ (128 + n / 128 % 128) ∷ n / 128 / 128 % 128 ∷ []) (low_group a m h₁ h₂)
    ∙ ap (λ (y : ℕ). a ∷ y ∷ n / 128 / 128 % 128 ∷ []) middle ∙ ap (λ (z : ℕ). a ∷ b ∷ z ∷ []) high

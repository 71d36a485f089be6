-- How a number is stored as bytes: groups of seven bits, the lowest first. Assumes nothing.
use Rattle.std.specs.Prelude.{ℕ, zero, suc, ◌+◌, ◌/◌, ◌%◌, ◌^◌, ◌<◌, ◌≤◌, cond, List, [], ◌∷◌, nat_lt}
use Rattle.std.specs.List.{flat_map}

-- the groups of a number, of which at most k follow the first; the top bit is set in every byte but the last
abbrev pub groups : ℕ → ℕ → List ℕ
groups zero n = (n % 128) ∷ []
groups (suc k) n = cond (nat_lt n 128) (n ∷ []) ((128 + n % 128) ∷ groups k (n / 128))

-- the bytes of a number: at most three, and no more than its highest one bit needs
unfoldable pub stored : ℕ → List ℕ
stored n = groups 2 n

-- three bytes store it
abbrev pub Small : ℕ → Type 0
Small n = n < 2 ^ 21

-- the bytes of numbers, one after another
abbrev pub text : List ℕ → List ℕ
text ns = flat_map stored ns

-- the byte has its top bit set, so that another one follows
abbrev pub More : ℕ → Type 0
More b = 128 ≤ b

-- the bytes end inside a number, or before one
pub data Cut : List ℕ → Type 0 where
  before : Cut []
  after_one : {a : ℕ} → More a → Cut (a ∷ [])
  after_two : {a b : ℕ} → More a → More b → Cut (a ∷ b ∷ [])

-- a number's third byte has its top bit set, or its last byte of several is 00
pub data Malformed : List ℕ → Type 0 where
  endless : {a b c : ℕ} {bs : List ℕ} → More a → More b → More c → Malformed (a ∷ b ∷ c ∷ bs)
  zero_second : {a : ℕ} {bs : List ℕ} → More a → Malformed (a ∷ 0 ∷ bs)
  zero_third : {a b : ℕ} {bs : List ℕ} → More a → More b → Malformed (a ∷ b ∷ 0 ∷ bs)

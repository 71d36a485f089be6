-- What stands at the front of bytes, by the first three of them.
use Rattle.std.proofs.Common.{◌≡◌, ℕ, ◌+◌, ◌-◌, ◌*◌, ◌<◌, ◌≤◌, ◌⊎◌, List, [], ◌∷◌, ◌++◌, length, get_or, Ok, Err, sym, refl, ap, ◌∙◌, subst, inl, inr, arith, length-append}
use Rattle.std.proofs.lemmas.List.{drop_at}
use Rattle.sheet.specs.Stored.{Small, stored, Cut, before, after_one, after_two, Malformed, endless, zero_second, zero_third}
use Rattle.sheet.specs.Faults.{at_place, Unreadable, ends, malformed}
use Rattle.sheet.specs.Reading.{FrontClause}
use Rattle.sheet.specs.declared.faults.BytesFault.{BytesFault}
use Rattle.sheet.specs.declared.faults.BytesFault.TheVariants as bytes
use Rattle.sheet.proofs.Groups.{stored_one, bytes_two, bytes_three}

-- bytes that begin with a number's
begun : (s rest : List ℕ) (n : ℕ) → Small n → stored n ≡ s → FrontClause (s ++ rest) (Ok (n, length s))
begun s rest n small e = (
  small,
  ap (λ (q : List ℕ). q ++ rest) (sym e) ∙ ap (λ (q : List ℕ). stored n ++ q) (sym (drop_at s rest (length s) refl)),
  ap length (sym e),
  omega (arith, length-append s rest),
)

pub front_one : (bs : List ℕ) → 1 ≤ length bs → get_or bs 0 0 < 128 → FrontClause bs (Ok (get_or bs 0 0, 1))
front_one [] h k = absurd (let z : ⊥ = omega arith in z)
front_one (a ∷ bs) h k = begun (a ∷ []) bs a (omega arith) (stored_one a k)

pub front_two : (bs : List ℕ) → 2 ≤ length bs → 128 ≤ get_or bs 0 0 → get_or bs 0 0 < 256 → (get_or bs 1 0 ≡ 0 → ⊥) → get_or bs 1 0 < 128 → FrontClause bs (Ok (get_or bs 0 0 - 128 + 128 * get_or bs 1 0, 2))
front_two [] h a₁ a₂ b₁ b₂ = absurd (let z : ⊥ = omega arith in z)
front_two (a ∷ []) h a₁ a₂ b₁ b₂ = absurd (let z : ⊥ = omega arith in z)
front_two (a ∷ b ∷ bs) h a₁ a₂ b₁ b₂ = begun (a ∷ b ∷ []) bs (a - 128 + 128 * b) (omega arith) (bytes_two a b a₁ a₂ (omega arith) b₂)

pub front_three : (bs : List ℕ) → 3 ≤ length bs → 128 ≤ get_or bs 0 0 → get_or bs 0 0 < 256 → 128 ≤ get_or bs 1 0 → get_or bs 1 0 < 256 → 1 ≤ get_or bs 2 0 → get_or bs 2 0 < 128 →
    FrontClause bs (Ok (get_or bs 0 0 - 128 + 128 * (get_or bs 1 0 - 128 + 128 * get_or bs 2 0), 3))
front_three [] h a₁ a₂ b₁ b₂ c₁ c₂ = absurd (let z : ⊥ = omega arith in z)
front_three (a ∷ []) h a₁ a₂ b₁ b₂ c₁ c₂ = absurd (let z : ⊥ = omega arith in z)
front_three (a ∷ b ∷ []) h a₁ a₂ b₁ b₂ c₁ c₂ = absurd (let z : ⊥ = omega arith in z)
front_three (a ∷ b ∷ c ∷ bs) h a₁ a₂ b₁ b₂ c₁ c₂ = begun (a ∷ b ∷ c ∷ []) bs (a - 128 + 128 * (b - 128 + 128 * c)) (omega arith) (bytes_three a b c a₁ a₂ b₁ b₂ c₁ c₂)

pub second_zero : (bs : List ℕ) → 2 ≤ length bs → 128 ≤ get_or bs 0 0 → get_or bs 1 0 ≡ 0 → Malformed bs
second_zero [] h k e = absurd (let z : ⊥ = omega arith in z)
second_zero (a ∷ []) h k e = absurd (let z : ⊥ = omega arith in z)
second_zero (a ∷ b ∷ bs) h k e = subst (λ (x : ℕ). Malformed (a ∷ x ∷ bs)) (sym e) (zero_second k)

pub third_wrong : (bs : List ℕ) → 3 ≤ length bs → 128 ≤ get_or bs 0 0 → 128 ≤ get_or bs 1 0 → (get_or bs 2 0 ≡ 0) ⊎ (128 ≤ get_or bs 2 0) → Malformed bs
third_wrong [] h k l w = absurd (let z : ⊥ = omega arith in z)
third_wrong (a ∷ []) h k l w = absurd (let z : ⊥ = omega arith in z)
third_wrong (a ∷ b ∷ []) h k l w = absurd (let z : ⊥ = omega arith in z)
third_wrong (a ∷ b ∷ c ∷ bs) h k l (inl e) = subst (λ (x : ℕ). Malformed (a ∷ b ∷ x ∷ bs)) (sym e) (zero_third k l)
third_wrong (a ∷ b ∷ c ∷ bs) h k l (inr m) = endless k l m

pub cut_none : (bs : List ℕ) → length bs < 1 → Cut bs
cut_none [] h = before
cut_none (a ∷ bs) h = absurd (let z : ⊥ = omega arith in z)

pub cut_one : (bs : List ℕ) → 1 ≤ length bs → length bs < 2 → 128 ≤ get_or bs 0 0 → Cut bs
cut_one [] h l k = absurd (let z : ⊥ = omega arith in z)
cut_one (a ∷ []) h l k = after_one k
cut_one (a ∷ b ∷ bs) h l k = absurd (let z : ⊥ = omega arith in z)

pub cut_two : (bs : List ℕ) → 2 ≤ length bs → length bs < 3 → 128 ≤ get_or bs 0 0 → 128 ≤ get_or bs 1 0 → Cut bs
cut_two [] h l k m = absurd (let z : ⊥ = omega arith in z)
cut_two (a ∷ []) h l k m = absurd (let z : ⊥ = omega arith in z)
cut_two (a ∷ b ∷ []) h l k m = after_two k m
cut_two (a ∷ b ∷ c ∷ bs) h l k m = absurd (let z : ⊥ = omega arith in z)

-- the place of what is wrong with them: bytes that end too early are at fault at their end
module _ (place end : ℕ) (rest : List ℕ) where
  pub ended : (f : BytesFault) → f ≡ bytes.Ends → FrontClause rest (Err f) → Unreadable place end rest (at_place f end)
  ended bytes.Ends e c = ends c
  ended bytes.Malformed e c = absurd (cc)
  ended bytes.OtherKind e c = absurd c
  ended bytes.HeadingOutOfRange e c = absurd c
  ended bytes.LeftOver e c = absurd c

  pub wrong : (f : BytesFault) → (f ≡ bytes.Ends → ⊥) → FrontClause rest (Err f) → Unreadable place end rest (at_place f place)
  wrong bytes.Ends n c = absurd (n refl)
  wrong bytes.Malformed n c = malformed c
  wrong bytes.OtherKind n c = absurd c
  wrong bytes.HeadingOutOfRange n c = absurd c
  wrong bytes.LeftOver n c = absurd c

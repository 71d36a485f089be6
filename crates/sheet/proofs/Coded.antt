-- A number of a slot's range is told by what is stored.
use Rattle.std.proofs.Common.{◌≡◌, ℕ, true, ◌&&◌, ◌⊎◌, [], ◌∷◌, ℤ, pos, negsuc, ◌≤ℤ◌, ◌<ℤ◌, sym, ap, ◌∙◌, subst, inl, inr, arith}
use lib.Signed.{le_z}
use Rattle.std.proofs.lemmas.Int.{ints}
use Rattle.std.proofs.lemmas.Bool.{and_parts}
use Rattle.label.specs.Form.{inside, storable, least_stored, most_stored}
use Rattle.label.specs.declared.written.Slot.{Slot}
use Rattle.label.specs.declared.written.Storage.{Storage}
use Rattle.label.specs.declared.written.Storage.TheVariants.{Signed, Image}
use Rattle.sheet.specs.Codes.{code}

pub code_one : (t : Storage) (x y : ℤ) → least_stored t ≤ℤ x → least_stored t ≤ℤ y → code t x ≡ code t y → x ≡ y
code_one Signed (pos a) (pos b) h k e = ap pos (let z : a ≡ b = omega arith in z)
code_one Signed (pos a) (negsuc b) h k e = absurd (let z : ⊥ = omega arith in z)
code_one Signed (negsuc a) (pos b) h k e = absurd (let z : ⊥ = omega arith in z)
code_one Signed (negsuc a) (negsuc b) h k e = ap negsuc (let z : a ≡ b = omega arith in z)
code_one Image (pos a) (pos b) h k e = ap pos e
code_one Image (pos a) (negsuc b) h k e = absurd (let z : ⊥ = omega (arith, ints) in z)
code_one Image (negsuc a) y h k e = absurd (let z : ⊥ = omega (arith, ints) in z)

leZ_le : (a b : ℤ) → le_z a b ≡ true → a ≤ℤ b
leZ_le a b e = grind (arith, ints)

le_trans : (a b c : ℤ) → a ≤ℤ b → b ≤ℤ c → a ≤ℤ c
le_trans a b c h k = omega (arith, ints)

pub inside_least : (s : Slot) (x : ℤ) → inside s x ≡ true → s.least ≤ℤ x
inside_least s x e = leZ_le s.least x (and_parts (le_z s.least x) (le_z x s.most) e).0

pub inside_most : (s : Slot) (x : ℤ) → inside s x ≡ true → x ≤ℤ s.most
inside_most s x e = leZ_le x s.most (and_parts (le_z s.least x) (le_z x s.most) e).1

-- what is in the range of a slot that can be stored is no less than the least that can be
pub inside_stored : (s : Slot) (x : ℤ) → storable (s ∷ []) ≡ true → inside s x ≡ true → least_stored s.storage ≤ℤ x
inside_stored s x st e =
    let low = le_z (least_stored s.storage) s.least in
    let high = le_z s.most (most_stored s.storage) in
    le_trans (least_stored s.storage) s.least x (leZ_le (least_stored s.storage) s.least (and_parts low high (and_parts (low && high) true st).0).0) (inside_least s x e)

-- a number outside the range: none of the range is stored as it is
pub none_inside : (s : Slot) (y : ℤ) (n : ℕ) → storable (s ∷ []) ≡ true → code s.storage y ≡ n → least_stored s.storage ≤ℤ y → (y <ℤ s.least) ⊎ (s.most <ℤ y) → (x : ℤ) → inside s x ≡ true → code s.storage x ≡ n → ⊥
none_inside s y n st e least out x i f =
    let same : x ≡ y = code_one s.storage x y (inside_stored s x st i) least (f ∙ sym e) in
    let j : inside s y ≡ true = subst (λ (z : ℤ). inside s z ≡ true) same i in
    let low = inside_least s y j in
    let high = inside_most s y j in
    elim out [ inl a ↦ omega (arith, ints) | inr b ↦ omega (arith, ints) ]

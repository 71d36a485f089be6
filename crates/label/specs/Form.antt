-- The written form of a kind of labels: the numbers that stand for a label. Assumes nothing.
use Rattle.std.specs.Prelude.{◌≡◌, ◌≤◌, Bool, true, false, ◌&&◌, List, [], ◌∷◌, length, ℤ, pos, negsuc, Some, Option, int_le}
use Rattle.label.specs.declared.written.Slot.{Slot}
use Rattle.label.specs.declared.written.Storage.{Storage}
use Rattle.label.specs.declared.written.Storage.TheVariants.{Signed, Image}

-- the number is in the slot's range
abbrev pub inside : Slot → ℤ → Bool
inside s x = int_le s.least x && int_le x s.most

-- as many numbers as slots, and each in its slot's range
abbrev pub fit : List Slot → List ℤ → Bool
fit [] [] = true
fit [] (x ∷ xs) = false
fit (s ∷ ss) [] = false
fit (s ∷ ss) (x ∷ xs) = inside s x && fit ss xs

-- the least and the greatest number that a sheet can store so
abbrev pub least_stored : Storage → ℤ
least_stored Signed = negsuc 1048575
least_stored Image = pos 0

abbrev pub most_stored : Storage → ℤ
most_stored Signed = pos 1048575
most_stored Image = pos 2097151

-- a sheet can store every number of each slot's range
abbrev pub storable : List Slot → Bool
storable [] = true
storable (s ∷ ss) = (int_le (least_stored s.storage) s.least && int_le s.most (most_stored s.storage)) && storable ss

-- how labels are written as numbers
pub record Form (M : Type 0) : Type 0 where
  -- the ranges of the numbers, in their order: at most 4,095, and a sheet can store them
  pub slots : List Slot
  pub few : length slots ≤ 4095
  pub stored : storable slots ≡ true
  -- whether the kind has a written form at all
  pub able : Bool
  -- the label that numbers in these ranges stand for, if they stand for one
  pub means : List ℤ → Option M
  -- the numbers of a label, if it can be written
  pub tells : M → Option (List ℤ)
  -- what reads is written as it was
  pub again : (xs : List ℤ) (m : M) → (able && fit slots xs) ≡ true → means xs ≡ Some m → tells m ≡ Some xs
  -- what is written reads as the same label
  pub back : (m : M) (xs : List ℤ) → tells m ≡ Some xs → ((able && fit slots xs) ≡ true) × (means xs ≡ Some m)

-- the numbers are as many as the kind has, and each is in its range
abbrev pub in_range : {M : Type 0} → Form M → List ℤ → Bool
in_range F xs = F.able && fit F.slots xs

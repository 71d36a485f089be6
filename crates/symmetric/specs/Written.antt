-- A permutation written as its eight images. Assumes nothing.
use Rattle.std.specs.Prelude.{◌≡◌, ℕ, Bool, true, false, List, map, replicate, ℤ, pos, negsuc, Some, None, Option, refl}
use Rattle.label.specs.declared.written.Slot.{Slot}
use Rattle.label.specs.declared.written.Storage.TheVariants.{Image}
use Rattle.symmetric.specs.Images.{permutes, Perm}

-- each image is a point
abbrev pub image_slot : Slot
image_slot = record { storage = Image; least = pos 0; most = pos 7 }

abbrev pub image_slots : List Slot
image_slots = replicate 8 image_slot

-- the point that a number is; a number below 0 is none, as 8 is none
abbrev pub point_of : ℤ → ℕ
point_of (pos n) = n
point_of (negsuc n) = 8

abbrev pub perm_if : (xs : List ℕ) (b : Bool) → permutes xs ≡ b → Option Perm
perm_if xs true e = Some (xs, e)
perm_if xs false e = None

-- the permutation with these images, if there is one
abbrev pub perm_of : List ℕ → Option Perm
perm_of xs = perm_if xs (permutes xs) refl

abbrev pub perm_read : List ℤ → Option Perm
perm_read xs = perm_of (map point_of xs)

abbrev pub perm_told : Perm → Option (List ℤ)
perm_told p = Some (map pos p.0)

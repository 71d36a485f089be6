-- What is proved of the reference meshes and of the reference sheets. Assumes nothing.
use Rattle.std.specs.Prelude.{◌≡◌, ℕ, ◌+◌, ◌<◌, ◌≤◌, true, List, [], ◌∷◌, ◌++◌, length, take, ℤ, pos, negsuc}
use Rattle.label.specs.Form.{Form, fit}
use Rattle.label.specs.declared.written.Storage.TheVariants.{Signed}
use Rattle.label.specs.declared.refusals.LabelFault.TheVariants as label
use Rattle.lattice.specs.Triples.{triple_slots, triple_form, triple_made}
use Rattle.permutation.specs.Permutations.{perm_group}
use Rattle.net.specs.Verdict.{First}
use Rattle.net.specs.Rules.{LineBreaks, line_rules}
use Rattle.net.specs.Numbers.{net_number}
use Rattle.net.specs.declared.refusals.NetRefusal.TheVariants as refusal
use Rattle.sheet.specs.Stored.{stored, text}
use Rattle.sheet.specs.Codes.{code, codes}
use Rattle.sheet.specs.Faults.{at_place, Unreadable, NoLabel}
use Rattle.sheet.specs.Numbers.{bytes_number, fault_number}
use Rattle.sheet.specs.declared.faults.Placed.{Placed}
use Rattle.sheet.specs.declared.faults.BytesFault.{BytesFault}
use Rattle.sheet.specs.declared.faults.BytesFault.TheVariants as bytes
use Rattle.sheet.specs.declared.faults.SheetFault.{SheetFault}
use Rattle.sheet.specs.declared.faults.SheetFault.TheVariants as sheet
use Rattle.reference_shells.specs.ReferenceLaws.{ReferenceLaws as ShellLaws}
use Rattle.reference_cases.specs.Involution.{lone_node, swap_loop}

-- the fault of a label's number that is outside its range, at its place
abbrev pub outside_at : ℕ → SheetFault
outside_at place = sheet.Label (at_place label.OutOfRange place)

-- the bytes of the first k numbers of a translation
abbrev pub numbers_before : ℕ → List ℤ → List ℕ
numbers_before k xs = text (codes (take k triple_slots) xs)

-- bytes from a place of a sheet on begin with no label, for one fault
pub record LabelRefused {M : Type 0} (F : Form M) (place : ℕ) (all : List ℕ) (f : SheetFault) : Type 0 where
  -- wherever the sheet ends
  pub refused : (end : ℕ) → NoLabel F place end all f
  -- and for no other, where the sheet ends with the bytes
  pub only : (g : SheetFault) → NoLabel F place (place + length all) all g → g ≡ f

-- the reference cases
pub record ReferenceLaws : Type 0 where
  -- the shells of the square, the diamond, the fourfold screw and the closed mesh
  pub shells : ShellLaws
  -- -500 is stored as the bytes E7 07, and 500 as E8 07
  pub least_bytes : stored (code Signed (negsuc 499)) ≡ 231 ∷ 7 ∷ []
  pub most_bytes : stored (code Signed (pos 500)) ≡ 232 ∷ 7 ∷ []
  -- the bytes E9 07 are no number of a translation: after the k numbers before them, in their ranges, and whatever follows
  pub past_range : (place k : ℕ) (xs : List ℤ) (rest : List ℕ) → k < 3 → fit (take k triple_slots) xs ≡ true →
      LabelRefused (triple_form triple_made) place (numbers_before k xs ++ (233 ∷ 7 ∷ rest)) (outside_at (place + length (numbers_before k xs)))
  -- its number is 4
  pub past_range_number : (place : ℕ) → fault_number (outside_at place) ≡ 4
  -- the bytes 80 00 begin with no number, whatever follows, and the fault is no other
  pub long_zero : (place end : ℕ) (rest : List ℕ) → Unreadable place end (128 ∷ 0 ∷ rest) (at_place bytes.Malformed place)
  pub long_zero_only : (place end : ℕ) (rest : List ℕ) (f : Placed BytesFault) → Unreadable place end (128 ∷ 0 ∷ rest) f → f ≡ at_place bytes.Malformed place
  -- its number is 2
  pub long_zero_number : bytes_number bytes.Malformed ≡ 2
  -- a loop at the node 0 with the images 1 0 2 3 4 5 6 7, on one node without lines and in a list with room, is refused by the rule on labels that are their own inverse
  pub involution_refused : (room : ℕ) → 1 ≤ room → First (LineBreaks perm_group lone_node room room swap_loop) refusal.InvolutionLoop line_rules
  -- its number is 11
  pub involution_number : net_number refusal.InvolutionLoop ≡ 11

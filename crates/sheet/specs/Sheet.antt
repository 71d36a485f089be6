-- The numbers of a sheet: the kind, the nodes, how many lines, and then each line. Assumes nothing.
use Rattle.std.specs.Prelude.{◌≡◌, ℕ, Bool, true, ◌&&◌, List, [], ◌∷◌, length, ℤ, Some, is_some}
use Rattle.std.specs.Option.{unwrap_or}
use Rattle.std.specs.List.{flat_map}
use Rattle.label.specs.Form.{Form}
use Rattle.mesh.specs.Net.{Line, Net}
use Rattle.sheet.specs.Codes.{codes}
use Rattle.sheet.specs.Stored.{text}

module _ {M : Type 0} (F : Form M) where
  -- the label's numbers as they are stored
  abbrev pub label_codes : M → List ℕ
  label_codes m = codes F.slots (unwrap_or (F.tells m) [])

  -- a line: its tail, its head and its label
  abbrev pub line_numbers : Line M → List ℕ
  line_numbers l = l.tail ∷ l.head ∷ label_codes l.label

  -- a sheet with that many lines announced, as far as these lines
  abbrev pub numbers_so_far : (kind nodes count : ℕ) → List (Line M) → List ℕ
  numbers_so_far kind nodes count ls = kind ∷ nodes ∷ count ∷ flat_map line_numbers ls

  abbrev pub sheet_numbers : ℕ → Net M → List ℕ
  sheet_numbers kind net = numbers_so_far kind net.nodes (length net.lines) net.lines

  -- the bytes of the net's sheet
  abbrev pub sheet : ℕ → Net M → List ℕ
  sheet kind net = text (sheet_numbers kind net)

  -- every label of the lines has a written form
  abbrev pub AllWritten : List (Line M) → Type 0
  AllWritten [] = Unit {0}
  AllWritten (l ∷ ls) = ((xs : List ℤ) × (F.tells l.label ≡ Some xs)) × AllWritten ls

  -- whether every label of the lines has a written form
  abbrev pub all_written : List (Line M) → Bool
  all_written [] = true
  all_written (l ∷ ls) = is_some (F.tells l.label) && all_written ls

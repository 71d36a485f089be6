-- What the parts of writing a sheet speak of. Assumes nothing.
use Rattle.std.specs.Prelude.{ℕ, List, map}
use Rattle.label.specs.Form.{Form}
use Rattle.mesh.specs.Net.{Net}
use Rattle.net.specs.Model.{line_of}
use Rattle.net.specs.declared.records.Line.{Line}
use Rattle.sheet.specs.Sheet.{sheet_numbers, sheet}

module _ {L M : Type 0} (F : Form M) (stands : L → M) (nodes : ℕ) (list : List (Line L)) where
  -- the net with these nodes and the records as its lines
  abbrev pub net_with : Net M
  net_with = record { nodes = nodes; lines = map (line_of stands) list }

  -- the numbers of its sheet, and their bytes
  abbrev pub numbers_of : ℕ → List ℕ
  numbers_of kind = sheet_numbers F kind net_with

  abbrev pub sheet_of : ℕ → List ℕ
  sheet_of kind = sheet F kind net_with

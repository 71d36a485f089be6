-- What is said of sheets, nets and lines. Assumes nothing.
use Rattle.std.specs.Prelude.{ℕ, Bool, cond, List, ◌++◌, codes, decimal}
use Rattle.net.specs.declared.records.Line.{Line}

-- a line: its place in the list, its tail and its head, and its label
abbrev pub line_said : {L : Type 0} → (L → List ℕ) → ℕ → Line L → List ℕ
line_said shown i l =
    codes "line " ++ (decimal i ++ (codes ": " ++ (decimal l.tail ++ (codes " -> " ++ (decimal l.head ++ (codes "  " ++ shown l.label))))))

-- a sheet: its length, and what its labels are called
abbrev pub sheet_said : List ℕ → ℕ → List ℕ
sheet_said kind n = codes "sheet: " ++ (decimal n ++ (codes " bytes, " ++ kind))

abbrev pub nodes_said : ℕ → List ℕ
nodes_said n = codes "nodes: " ++ decimal n

-- a node, and how many ports it has
abbrev pub ports_said : ℕ → ℕ → List ℕ
ports_said i n = codes "node " ++ (decimal i ++ (codes ": " ++ (decimal n ++ codes " ports")))

-- a sheet written again: its length, and whether it is the same as before
abbrev pub again_said : ℕ → Bool → List ℕ
again_said n same = codes "written again: " ++ (decimal n ++ (codes " bytes, " ++ cond same (codes "the same") (codes "not the same")))

-- Reading a whole sheet: every fault that refuses one, and every net that one holds, is what this reading comes to.
use Rattle.std.proofs.Common.{◌≡◌, ℕ, suc, ◌+◌, ◌-◌, ◌≤◌, List, [], ◌++◌, length, Ok, Err, Result, sym, refl, ap, ◌∙◌, subst, arith, length-append}
use Rattle.std.specs.List.{flat_map}
use Rattle.label.specs.Group.{Group}
use Rattle.label.specs.Form.{Form}
use Rattle.mesh.specs.Net.{Line, Net}
use Rattle.sheet.specs.Stored.{Small, text}
use Rattle.sheet.specs.Sheet.{line_numbers, numbers_so_far}
use Rattle.sheet.specs.Faults.{at_place, NoLine, Begins, Refused, heading, line, rule, left_over}
use Rattle.sheet.specs.declared.faults.BytesFault.TheVariants as bytes
use Rattle.sheet.specs.declared.faults.SheetFault.{SheetFault}
use Rattle.sheet.specs.declared.faults.SheetFault.TheVariants as sheet
use Rattle.sheet.proofs.Readers.{One, stops, goes, bad, good, broken}
use Rattle.sheet.proofs.NumberReader.{place_at}
use Rattle.sheet.proofs.HeadingReader.{nodes_few, count_few, WithHeading, heading_one, a_heading, no_heading}
use Rattle.sheet.proofs.LineReader.{no_line, a_line}
use Rattle.sheet.proofs.DrawingReader.{LinesLeft, lines_one, lines_read}

module _ {M : Type 0} (F : Form M) (G : Group M) (kind room : ℕ) (all : List ℕ) where
  abbrev end : ℕ
  end = length all

  abbrev Announced : (nodes count : ℕ) → List ℕ → Result (Net M) SheetFault → Type 0
  Announced nodes count = LinesLeft F G room end nodes count []

  -- what reading the bytes comes to, into a list with so much room
  abbrev pub Reads : Result (Net M) SheetFault → Type 0
  Reads = WithHeading kind all Announced

  pub reads_one : One Reads
  reads_one = heading_one kind all Announced (λ nodes count rest. lines_one F G room end nodes count [] rest)

  module _ (small : Small kind) where
    -- a heading and lines are read, and the others announced are to be read from the rest
    begun : (nodes count : ℕ) (ls : List (Line M)) (rest : List ℕ) (left : ℕ) (r : Result (Net M) SheetFault) → length ls ≤ room → Begins F G kind room all nodes count ls rest → count ≡ length ls + left → LinesLeft F G room end nodes left ls rest r → Reads r
    begun nodes count ls rest left r in_room b counted after =
        let few = nodes_few nodes b.nodes_in in
        let fewer = count_few count b.count_in in
        let ns = flat_map (line_numbers F) ls in
        a_heading kind all Announced small nodes count ns rest r b.nodes_in b.count_in b.bytes
        (lines_read F G room end nodes ls [] (text ns ++ rest) rest left count r few (omega arith) (omega arith) b.drawn b.written counted refl after)

    -- a refused sheet is read as its fault
    pub refused_reads : (ls : List (Line M)) (f : SheetFault) → length ls ≤ room → Refused F G kind room all ls f → Reads (Err f)
    refused_reads _ _ in_room (heading f n) = no_heading kind all Announced small f n
    refused_reads _ _ in_room (line nodes count ls rest f b less n) =
        let far = text (numbers_so_far F kind nodes count ls) in
        let long = ap length b.bytes ∙ length-append far rest in
        begun nodes count ls rest (suc (count - suc (length ls))) (Err f) in_room b (omega arith)
        (stops f (no_line F end rest f (omega arith) (subst (λ (p : ℕ). NoLine F p end rest f) (place_at all far rest b.bytes) n)))
    refused_reads _ _ in_room (rule nodes count ls l rest after e b less a first) =
        subst (λ (p : ℕ). Reads (Err (sheet.Line (at_place e p)))) (sym (place_at all (text (numbers_so_far F kind nodes count ls)) rest b.bytes))
        (begun nodes count ls rest (suc (count - suc (length ls))) (Err (sheet.Line (at_place e (end - length rest)))) in_room b (omega arith) (goes l after (a_line F end rest l after a) (broken e first)))
    refused_reads _ _ in_room (left_over nodes count ls rest b counted some_left) =
        subst (λ (p : ℕ). Reads (Err (sheet.Bytes (at_place bytes.LeftOver p)))) (sym (place_at all (text (numbers_so_far F kind nodes count ls)) rest b.bytes))
        (begun nodes count ls rest 0 (Err (sheet.Bytes (at_place bytes.LeftOver (end - length rest)))) in_room b (omega arith) (bad some_left))

    -- a whole sheet is read as its net
    pub whole_reads : (nodes : ℕ) (ls : List (Line M)) → length ls ≤ room → Begins F G kind room all nodes (length ls) ls [] → Reads (Ok (record { nodes = nodes; lines = ls }))
    whole_reads nodes ls in_room b = begun nodes (length ls) ls [] 0 (Ok (record { nodes = nodes; lines = ls })) in_room b (omega arith) (good (λ more. more refl) refl)

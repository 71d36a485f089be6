-- The refusals of the kit in words. Assumes nothing.
use Rattle.std.specs.Prelude.{ℕ, cond, List, ◌++◌, codes, decimal, ◌==◌}
use Rattle.sheet.specs.Numbers.{fault_number, fault_place, fault_layer, layer_number, write_number}
use Rattle.sheet.specs.declared.faults.SheetFault.{SheetFault}
use Rattle.sheet.specs.declared.refusals.WriteRefusal.{WriteRefusal}

-- a refusal's number in words
unfoldable pub words_of : ℕ → List ℕ
words_of n =
    cond (n == 1) (codes "the sheet ends inside a number or before one")
    (cond (n == 2) (codes "a number that is not in its shortest form")
    (cond (n == 3) (codes "another kind than named")
    (cond (n == 4) (codes "a number outside its range")
    (cond (n == 5) (codes "eight images that are no permutation")
    (cond (n == 6) (codes "bytes left over")
    (cond (n == 7) (codes "no such node")
    (cond (n == 9) (codes "the output is shorter than the result")
    (cond (n == 10) (codes "a line from a node to itself with the identity")
    (cond (n == 11) (codes "a line from a node to itself whose label is its own inverse")
    (cond (n == 12) (codes "a line list of another length")
    (cond (n == 20) (codes "the line list is full")
    (cond (n == 22) (codes "the tail already has a port to the same head with the same label")
    (cond (n == 23) (codes "a node would have more than 12 ports")
    (cond (n == 24) (codes "no line to take back")
    (cond (n == 31) (codes "a label without written form")
    (codes "no refusal of that number"))))))))))))))))

-- a fault in one line: its number, its byte place, its layer, and its words
abbrev pub fault_line : SheetFault → List ℕ
fault_line f =
    codes "refused " ++ (decimal (fault_number f) ++ (codes " at byte " ++ (decimal (fault_place f) ++ (codes " in layer " ++ (decimal (layer_number (fault_layer f)) ++ (codes ": " ++ words_of (fault_number f)))))))

-- a refusal to write in one line: its number and its words
abbrev pub refusal_line : WriteRefusal → List ℕ
refusal_line r = codes "refused " ++ (decimal (write_number r) ++ (codes ": " ++ words_of (write_number r)))

-- Why bytes are no sheet: the fault that reading tells, with its place. Assumes nothing.
use Rattle.std.specs.Prelude.{◌≡◌, ℕ, ◌+◌, ◌<◌, true, false, ◌≢◌, ◌⊎◌, List, [], ◌∷◌, ◌++◌, length, take, ℤ, Some, None, Ok, Err, Result}
use Rattle.std.specs.List.{slice_get}
use Rattle.label.specs.Group.{Group}
use Rattle.label.specs.Form.{Form, inside, fit, in_range}
use Rattle.label.specs.declared.written.Slot.{Slot}
use Rattle.label.specs.declared.refusals.LabelFault.TheVariants as label
use Rattle.mesh.specs.Net.{Line}
use Rattle.mesh.specs.Drawn.{Drawn}
use Rattle.net.specs.Verdict.{First}
use Rattle.net.specs.Rules.{LineBreaks, line_rules}
use Rattle.net.specs.declared.refusals.NetRefusal.{NetRefusal}
use Rattle.sheet.specs.Stored.{Small, stored, text, Cut, Malformed}
use Rattle.sheet.specs.Codes.{code, codes}
use Rattle.sheet.specs.Sheet.{numbers_so_far, AllWritten}
use Rattle.sheet.specs.declared.faults.Placed.{Placed}
use Rattle.sheet.specs.declared.faults.BytesFault.{BytesFault}
use Rattle.sheet.specs.declared.faults.BytesFault.TheVariants as bytes
use Rattle.sheet.specs.declared.faults.SheetFault.{SheetFault}
use Rattle.sheet.specs.declared.faults.SheetFault.TheVariants as sheet

abbrev pub at_place : {F : Type 0} → F → ℕ → Placed F
at_place f p = record { fault = f; place = p }

-- the same answer, its fault with its place
abbrev pub placed_at : {T F : Type 0} → Result T F → ℕ → Result T (Placed F)
placed_at (Ok x) p = Ok x
placed_at (Err f) p = Err (at_place f p)

-- no number begins the bytes, which begin at a place of a sheet that ends at `end`
pub data Unreadable (place end : ℕ) (rest : List ℕ) : Placed BytesFault → Type 0 where
  ends : Cut rest → Unreadable place end rest (at_place bytes.Ends end)
  malformed : Malformed rest → Unreadable place end rest (at_place bytes.Malformed place)

-- no sheet has so many nodes; no sheet has so many lines
abbrev pub NodesOut : ℕ → Type 0
NodesOut n = (n < 1) ⊎ (24 < n)

abbrev pub CountOut : ℕ → Type 0
CountOut n = 96 < n

-- the bytes begin with no heading of the kind
pub data NoHeading (kind end : ℕ) (all : List ℕ) : Placed BytesFault → Type 0 where
  no_kind : (f : Placed BytesFault) → Unreadable 0 end all f → NoHeading kind end all f
  other_kind : (n : ℕ) (rest : List ℕ) → Small n → all ≡ stored n ++ rest → n ≢ kind → NoHeading kind end all (at_place bytes.OtherKind 0)
  no_nodes : (rest : List ℕ) (f : Placed BytesFault) → all ≡ text (kind ∷ []) ++ rest → Unreadable (length (text (kind ∷ []))) end rest f → NoHeading kind end all f
  nodes_out : (n : ℕ) (rest : List ℕ) → Small n → all ≡ text (kind ∷ n ∷ []) ++ rest → NodesOut n → NoHeading kind end all (at_place bytes.HeadingOutOfRange (length (text (kind ∷ []))))
  no_count : (n : ℕ) (rest : List ℕ) (f : Placed BytesFault) → (NodesOut n → ⊥) → all ≡ text (kind ∷ n ∷ []) ++ rest → Unreadable (length (text (kind ∷ n ∷ []))) end rest f → NoHeading kind end all f
  count_out : (n m : ℕ) (rest : List ℕ) → (NodesOut n → ⊥) → Small m → all ≡ text (kind ∷ n ∷ m ∷ []) ++ rest → CountOut m → NoHeading kind end all (at_place bytes.HeadingOutOfRange (length (text (kind ∷ n ∷ []))))

module _ {M : Type 0} (F : Form M) where
  -- the bytes, which begin at a place of a sheet that ends at `end`, begin with no label
  pub data NoLabel (place end : ℕ) (all : List ℕ) : SheetFault → Type 0 where
    -- after k numbers in their ranges, no number can be read
    unread : (k : ℕ) (xs : List ℤ) (rest : List ℕ) (f : Placed BytesFault) → k < length F.slots → fit (take k F.slots) xs ≡ true → all ≡ text (codes (take k F.slots) xs) ++ rest →
        Unreadable (place + length (text (codes (take k F.slots) xs))) end rest f → NoLabel place end all (sheet.Bytes f)
    -- after k numbers in their ranges comes one as which no number of its range is stored
    outside : (k n : ℕ) (s : Slot) (xs : List ℤ) (rest : List ℕ) → fit (take k F.slots) xs ≡ true → slice_get F.slots k ≡ Some s → Small n → ((x : ℤ) → inside s x ≡ true → code s.storage x ≢ n) →
        all ≡ text (codes (take k F.slots) xs) ++ (stored n ++ rest) → NoLabel place end all (sheet.Label (at_place label.OutOfRange (place + length (text (codes (take k F.slots) xs)))))
    -- the kind has no written form
    unwritable : (xs : List ℤ) (rest : List ℕ) → fit F.slots xs ≡ true → F.able ≡ false → all ≡ text (codes F.slots xs) ++ rest → NoLabel place end all (sheet.Label (at_place label.OutOfRange place))
    -- the numbers are in their ranges, and stand for no label
    meaningless : (xs : List ℤ) (rest : List ℕ) → in_range F xs ≡ true → F.means xs ≡ None → all ≡ text (codes F.slots xs) ++ rest → NoLabel place end all (sheet.Label (at_place label.NoPermutation place))

  -- the bytes begin with the label, and the rest follows
  pub record ALabel (all : List ℕ) (m : M) (rest : List ℕ) : Type 0 where
    pub numbers : List ℤ
    pub ranges : in_range F numbers ≡ true
    pub label : F.means numbers ≡ Some m
    pub bytes : all ≡ text (codes F.slots numbers) ++ rest

  -- the bytes, which begin at a place of a sheet that ends at `end`, begin with no line
  pub data NoLine (place end : ℕ) (all : List ℕ) : SheetFault → Type 0 where
    no_tail : (f : Placed BytesFault) → Unreadable place end all f → NoLine place end all (sheet.Bytes f)
    no_head : (t : ℕ) (rest : List ℕ) (f : Placed BytesFault) → Small t → all ≡ text (t ∷ []) ++ rest → Unreadable (place + length (text (t ∷ []))) end rest f → NoLine place end all (sheet.Bytes f)
    no_label : (t h : ℕ) (rest : List ℕ) (f : SheetFault) → Small t → Small h → all ≡ text (t ∷ h ∷ []) ++ rest → NoLabel (place + length (text (t ∷ h ∷ []))) end rest f → NoLine place end all f

  -- the bytes begin with the line, and the rest follows
  pub record ALine (all : List ℕ) (l : Line M) (rest : List ℕ) : Type 0 where
    pub tail_small : Small l.tail
    pub head_small : Small l.head
    pub between : List ℕ
    pub ends : all ≡ text (l.tail ∷ l.head ∷ []) ++ between
    pub label : ALabel between l.label rest

  module _ (G : Group M) (kind room : ℕ) (all : List ℕ) where
    -- the bytes begin with a heading of the kind and these lines, which can be drawn
    pub record Begins (nodes count : ℕ) (ls : List (Line M)) (rest : List ℕ) : Type 0 where
      pub nodes_in : NodesOut nodes → ⊥
      pub count_in : CountOut count → ⊥
      pub drawn : Drawn G (record { nodes = nodes; lines = ls })
      pub written : AllWritten F ls
      pub bytes : all ≡ text (numbers_so_far F kind nodes count ls) ++ rest

    -- reading is refused, after these lines were drawn
    pub data Refused : List (Line M) → SheetFault → Type 0 where
      heading : (f : Placed BytesFault) → NoHeading kind (length all) all f → Refused [] (sheet.Bytes f)
      line : (nodes count : ℕ) (ls : List (Line M)) (rest : List ℕ) (f : SheetFault) → Begins nodes count ls rest → length ls < count →
          NoLine (length (text (numbers_so_far F kind nodes count ls))) (length all) rest f → Refused ls f
      rule : (nodes count : ℕ) (ls : List (Line M)) (l : Line M) (rest after : List ℕ) (e : NetRefusal) → Begins nodes count ls rest → length ls < count → ALine rest l after →
          First (LineBreaks G (record { nodes = nodes; lines = ls }) room room l) e line_rules → Refused ls (sheet.Line (at_place e (length (text (numbers_so_far F kind nodes count ls)))))
      left_over : (nodes count : ℕ) (ls : List (Line M)) (rest : List ℕ) → Begins nodes count ls rest → length ls ≡ count → rest ≢ [] →
          Refused ls (sheet.Bytes (at_place bytes.LeftOver (length (text (numbers_so_far F kind nodes count ls)))))

-- What the parts of reading a sheet answer. Assumes nothing.
use Rattle.std.specs.Prelude.{◌≡◌, ℕ, ◌+◌, ◌<◌, ◌≤◌, true, ◌≢◌, List, [], ◌∷◌, ◌++◌, length, drop, ℤ, Ok, Err, Result}
use Rattle.sheet.specs.Stored.{Small, stored, text, Cut, Malformed}
use Rattle.sheet.specs.Faults.{at_place, Unreadable, NodesOut, CountOut, NoHeading, NoLabel, ALabel, NoLine, ALine}
use Rattle.sheet.specs.declared.faults.Placed.{Placed}
use Rattle.sheet.specs.declared.faults.BytesFault.{BytesFault}
use Rattle.sheet.specs.declared.faults.BytesFault.TheVariants as bytes
use Rattle.sheet.specs.declared.reader.Heading.{Heading}
use Rattle.sheet.specs.declared.reader.Reader.{Reader}
use Rattle.sheet.specs.declared.faults.SheetFault.{SheetFault}
use Rattle.sheet.specs.declared.faults.SheetFault.TheVariants as sheet
use Rattle.sheet.specs.Codes.{code, codes}
use Rattle.label.specs.Form.{Form, inside}
use Rattle.label.specs.declared.written.Slot.{Slot}
use Rattle.label.specs.declared.refusals.LabelFault.TheVariants.{OutOfRange}
use Rattle.net.specs.Model.{line_of}
use Rattle.net.specs.Verdict.{First}
use Rattle.net.specs.Rules.{LineBreaks, line_rules}
use Rattle.net.specs.Model.{net_of}
use Rattle.net.specs.Clauses.{DrawnOn}
use Rattle.net.specs.declared.refusals.NetRefusal.{NetRefusal}
use Rattle.label.specs.Group.{Group}
use Rattle.net.specs.declared.records.Line.{Line}
use Rattle.net.specs.declared.drafts.Draft.{Draft}

-- a reader that read on: in the same bytes, from the place before to the place after, it found what `Found` says
pub record Reads {A : Type 0} (Found : List ℕ → (place next : ℕ) → A → Type 0) (r r' : Reader) (answer : A) : Type 0 where
  pub bytes : r'.bytes.now ≡ r.bytes.now
  pub told : Found r.bytes.now r.place r'.place answer

-- what stands at the front of bytes: a number with how many bytes it takes, or why there is none
abbrev pub FrontClause : List ℕ → Result (ℕ × ℕ) BytesFault → Type 0
FrontClause all (Ok n) = Small n.0 × (all ≡ stored n.0 ++ drop n.1 all) × (n.1 ≡ length (stored n.0)) × (n.1 ≤ length all)
FrontClause all (Err bytes.Ends) = Cut all
FrontClause all (Err bytes.Malformed) = Malformed all
FrontClause all (Err bytes.OtherKind) = ⊥
FrontClause all (Err bytes.HeadingOutOfRange) = ⊥
FrontClause all (Err bytes.LeftOver) = ⊥

-- the number stands at the place, and `next` is the place after it
pub record NumberAt (bytes : List ℕ) (place value next : ℕ) : Type 0 where
  pub small : Small value
  pub bytes_are : drop place bytes ≡ stored value ++ drop next bytes
  pub next_is : next ≡ place + length (stored value)
  pub within : next ≤ length bytes

-- the numbers stand one after another from the place on, up to the place `next`
pub record NumbersAt (bytes : List ℕ) (place : ℕ) (ns : List ℕ) (next : ℕ) : Type 0 where
  pub bytes_are : drop place bytes ≡ text ns ++ drop next bytes
  pub next_is : next ≡ place + length (text ns)
  pub within : next ≤ length bytes

-- the answer of reading a number at the place, up to the place `next`
abbrev pub NumberClause : List ℕ → (place next : ℕ) → Result ℕ (Placed BytesFault) → Type 0
NumberClause bytes place next (Ok n) = NumberAt bytes place n next
NumberClause bytes place next (Err f) = Unreadable place (length bytes) (drop place bytes) f

-- whether the bytes end at the place
abbrev pub EndClause : List ℕ → ℕ → Result Unit (Placed BytesFault) → Type 0
EndClause all place (Ok u) = length all ≤ place
EndClause all place (Err f) = (place < length all) × (f ≡ at_place bytes.LeftOver place)

-- a heading that was read: a draft without lines over the list, the lines announced, and the place after
pub record HeadingAt {L : Type 0} (kind : ℕ) (bytes : List ℕ) (list : List (Line L)) (h : Heading) (next : ℕ) : Type 0 where
  pub nodes_in : NodesOut h.draft.nodes → ⊥
  pub count_in : CountOut h.lines → ⊥
  pub blank : h.draft.lines ≡ 0
  pub room : h.draft.room ≡ length list
  pub numbers : NumbersAt bytes 0 (kind ∷ h.draft.nodes ∷ h.lines ∷ []) next

abbrev pub HeadingClause : {L : Type 0} → ℕ → List (Line L) → List ℕ → (next : ℕ) → Result Heading (Placed BytesFault) → Type 0
HeadingClause kind list bytes next (Ok h) = HeadingAt kind bytes list h next
HeadingClause kind list bytes next (Err f) = NoHeading kind (length bytes) bytes f

-- a number of a label that was read: it is in its range, and `next` is the place after it
pub record SlotNumberAt (bytes : List ℕ) (place : ℕ) (s : Slot) (value : ℤ) (next : ℕ) : Type 0 where
  pub ranges : inside s value ≡ true
  pub number : NumberAt bytes place (code s.storage value) next

-- a number that no number of the slot's range is stored as
pub record SlotOutside (bytes : List ℕ) (place : ℕ) (s : Slot) : Type 0 where
  pub value : ℕ
  pub next : ℕ
  pub number : NumberAt bytes place value next
  pub none : (x : ℤ) → inside s x ≡ true → code s.storage x ≢ value

-- no number in the slot's range stands at the place
pub data NoSlotNumber (bytes : List ℕ) (place : ℕ) (s : Slot) : SheetFault → Type 0 where
  unread : (f : Placed BytesFault) → Unreadable place (length bytes) (drop place bytes) f → NoSlotNumber bytes place s (sheet.Bytes f)
  outside : SlotOutside bytes place s → NoSlotNumber bytes place s (sheet.Label (at_place OutOfRange place))

abbrev pub SlotClause : Slot → List ℕ → (place next : ℕ) → Result ℤ SheetFault → Type 0
SlotClause s bytes place next (Ok x) = SlotNumberAt bytes place s x next
SlotClause s bytes place next (Err f) = NoSlotNumber bytes place s f

module _ {L M : Type 0} (F : Form M) (stands : L → M) where
  -- a label that was read, and the place after it
  pub record LabelAt (bytes : List ℕ) (place : ℕ) (l : L) (next : ℕ) : Type 0 where
    pub label : ALabel F (drop place bytes) (stands l) (drop next bytes)
    pub next_is : next ≡ place + length (text (codes F.slots label.numbers))
    pub within : next ≤ length bytes

  abbrev pub LabelClause : List ℕ → (place next : ℕ) → Result L SheetFault → Type 0
  LabelClause bytes place next (Ok l) = LabelAt bytes place l next
  LabelClause bytes place next (Err f) = NoLabel F place (length bytes) (drop place bytes) f

  -- a line that was read, and the place after it
  pub record LineAt (bytes : List ℕ) (place : ℕ) (l : Line L) (next : ℕ) : Type 0 where
    pub line : ALine F (drop place bytes) (line_of stands l) (drop next bytes)
    pub next_is : next ≡ place + length (text (l.tail ∷ l.head ∷ codes F.slots line.label.numbers))
    pub within : next ≤ length bytes

  abbrev pub LineAtClause : List ℕ → (place next : ℕ) → Result (Line L) SheetFault → Type 0
  LineAtClause bytes place next (Ok l) = LineAt bytes place l next
  LineAtClause bytes place next (Err f) = NoLine F place (length bytes) (drop place bytes) f

  -- a line that was read and drawn, and the place after it
  pub record Drew (G : Group M) (bytes : List ℕ) (place : ℕ) (d : Draft) (list : List (Line L)) (next : ℕ) (d' : Draft) (list' : List (Line L)) : Type 0 where
    pub line : Line L
    pub at : LineAt bytes place line next
    pub drawn : DrawnOn G stands d list line d' list'

  -- why no line was read and drawn
  pub data NoDraw (G : Group M) (bytes : List ℕ) (place : ℕ) (d : Draft) (list : List (Line L)) : SheetFault → Type 0 where
    unread_line : (f : SheetFault) → NoLine F place (length bytes) (drop place bytes) f → NoDraw G bytes place d list f
    refused_line : (l : Line L) (next : ℕ) (e : NetRefusal) → LineAt bytes place l next → First (LineBreaks G (net_of stands d list) d.room (length list) (line_of stands l)) e line_rules →
        NoDraw G bytes place d list (sheet.Line (at_place e place))

  abbrev pub DrawClause : Group M → Draft → List (Line L) → Draft → List (Line L) → List ℕ → (place next : ℕ) → Result Unit SheetFault → Type 0
  DrawClause G d list d' list' bytes place next (Ok u) = Drew G bytes place d list next d' list'
  DrawClause G d list d' list' bytes place next (Err f) = NoDraw G bytes place d list f × (d' ≡ d) × (list' ≡ list)

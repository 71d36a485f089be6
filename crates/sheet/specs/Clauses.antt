-- What reading and writing a sheet answer and leave. Assumes nothing.
use Rattle.std.specs.Prelude.{◌≡◌, ℕ, ◌<◌, ◌≢◌, List, [], ◌∷◌, ◌++◌, length, drop, Ok, Err, Result}
use Rattle.label.specs.Group.{Group}
use Rattle.label.specs.Form.{Form}
use Rattle.mesh.specs.Net as mesh
use Rattle.mesh.specs.Drawn.{Drawn}
use Rattle.net.specs.Verdict.{Settled}
use Rattle.net.specs.Model.{lines_of, net_of}
use Rattle.net.specs.declared.records.Line.{Line}
use Rattle.net.specs.declared.drafts.Draft.{Draft}
use Rattle.sheet.specs.Sheet.{sheet, AllWritten}
use Rattle.sheet.specs.Faults.{Refused}
use Rattle.sheet.specs.declared.faults.SheetFault.{SheetFault}
use Rattle.sheet.specs.declared.refusals.WriteRefusal.{WriteRefusal}
use Rattle.sheet.specs.declared.refusals.WriteRefusal.TheVariants as refusal

module _ {L M : Type 0} (G : Group M) (F : Form M) (stands : L → M) (kind : ℕ) where
  -- a sheet that was read: its bytes are those of the net, which was drawn under the rules; records past its lines are as they were
  pub record WasRead (bytes : List ℕ) (list : List (Line L)) (d : Draft) (list' : List (Line L)) : Type 0 where
    pub bytes_are : bytes ≡ sheet F kind (net_of stands d list')
    pub written : AllWritten F (net_of stands d list').lines
    pub drawn : Drawn G (net_of stands d list')
    pub room : d.room ≡ length list
    pub long : length list' ≡ length list
    pub past : drop d.lines list' ≡ drop d.lines list

  -- a sheet that was not: the fault is the one that the bytes have after the lines drawn so far, which the list keeps
  pub record WasRefused (bytes : List ℕ) (list : List (Line L)) (f : SheetFault) (list' : List (Line L)) : Type 0 where
    pub lines : List (mesh.Line M)
    pub fault : Refused F G kind (length list) bytes lines f
    pub kept : lines_of stands (length lines) list' ≡ lines
    pub long : length list' ≡ length list
    pub past : drop (length lines) list' ≡ drop (length lines) list

  -- the answer of `read`, for every byte string and every list
  abbrev pub ReadSheet : List ℕ → List (Line L) → Result Draft SheetFault → List (Line L) → Type 0
  ReadSheet bytes list (Ok d) list' = WasRead bytes list d list'
  ReadSheet bytes list (Err f) list' = WasRefused bytes list f list'

  -- the rules of writing
  abbrev pub WriteBreaks : mesh.Net M → (room lent space : ℕ) → WriteRefusal → Type 0
  WriteBreaks net room lent space refusal.OtherLength = lent ≢ room
  WriteBreaks net room lent space refusal.NoWrittenForm = AllWritten F net.lines → ⊥
  WriteBreaks net room lent space refusal.OutputShort = space < length (sheet F kind net)

  abbrev pub write_rules : List WriteRefusal
  write_rules = refusal.OtherLength ∷ refusal.NoWrittenForm ∷ refusal.OutputShort ∷ []

  -- the answer of `write`, for every draft, list and output
  abbrev pub WriteSheet : Draft → List (Line L) → List ℕ → Result ℕ WriteRefusal → List ℕ → Type 0
  WriteSheet d list out r out' =
      let net = net_of stands d list in
      Settled (WriteBreaks net d.room (length list) (length out)) write_rules
      (λ n. (n ≡ length (sheet F kind net)) × (out' ≡ sheet F kind net ++ drop n out)) (out' ≡ out) r

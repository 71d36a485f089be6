-- The lines of records: how many numbers they have, and whether their labels are written.
use Rattle.std.proofs.Common.{◌≡◌, suc, ◌+◌, Bool, true, ◌&&◌, List, [], ◌∷◌, map, length, ℤ, Some, None, Option, is_some, is_ok, unwrap_or, refl, ap, ◌∙◌, arith}
use Rattle.std.specs.List.{list_all}
use Rattle.std.proofs.lemmas.Bool.{and_parts, and_from, false≢true}
use Rattle.label.specs.Clauses.{written_at}
use Rattle.label.specs.Fits.{told_length}
use Rattle.label.specs.Form.{Form}
use Rattle.label.specs.declared.written.Slot.{Slot}
use Rattle.mesh.specs.Net as mesh
use Rattle.net.specs.Model.{line_of}
use Rattle.net.specs.declared.records.Line.{Line}
use Rattle.sheet.specs.Codes.{codes}
use Rattle.sheet.specs.Sheet.{label_codes, line_numbers, AllWritten, all_written}
use Rattle.sheet.proofs.Flat.{Even}
use Rattle.sheet.proofs.Tellings.{written_told}

is_there : {X : Type 0} (o : Option X) → is_some o ≡ true → (x : X) × (o ≡ Some x)
is_there None e = absurd (false≢true e)
is_there (Some x) e = (x, refl)

codes_length : (ss : List Slot) (xs : List ℤ) → length xs ≡ length ss → length (codes ss xs) ≡ length ss
codes_length [] xs e = refl
codes_length (s ∷ ss) [] e = absurd (let z : ⊥ = omega arith in z)
codes_length (s ∷ ss) (x ∷ xs) e = ap suc (codes_length ss xs (omega arith))

module _ {M : Type 0} (F : Form M) where
  pub line_length : (l : mesh.Line M) (xs : List ℤ) → F.tells l.label ≡ Some xs → length (line_numbers F l) ≡ 2 + length F.slots
  line_length l xs e =
      let told = ap (λ o. unwrap_or o []) e in
      let codes_are : length (label_codes F l.label) ≡ length F.slots = ap (λ (ns : List ℤ). length (codes F.slots ns)) told ∙ codes_length F.slots xs (told_length F l.label xs e) in
      omega arith

  -- written lines have one length
  pub written_even : (ls : List (mesh.Line M)) → AllWritten F ls → Even (line_numbers F) (2 + length F.slots) ls
  written_even [] w = tt
  written_even (l ∷ ls) w = (line_length l w.0.0 w.0.1, written_even ls w.1)

  -- the test tells whether they are written
  pub written_from : (ls : List (mesh.Line M)) → all_written F ls ≡ true → AllWritten F ls
  written_from [] e = tt
  written_from (l ∷ ls) e = let p = and_parts (is_some (F.tells l.label)) (all_written F ls) e in (is_there (F.tells l.label) p.0, written_from ls p.1)

  pub written_all : (ls : List (mesh.Line M)) → AllWritten F ls → all_written F ls ≡ true
  written_all [] w = refl
  written_all (l ∷ ls) w = and_from (is_some (F.tells l.label)) (all_written F ls) (ap is_some w.0.1) (written_all ls w.1)

  -- the test, record by record
  pub written_each : {L : Type 0} (stands : L → M) (xs : List (Line L)) → list_all (λ (x : Line L). is_ok (written_at (F.tells (stands x.label)) 0)) xs ≡ all_written F (map (line_of stands) xs)
  written_each stands [] = refl
  written_each {L} stands (x ∷ xs) =
      ap (λ (b : Bool). b && list_all (λ (y : Line L). is_ok (written_at (F.tells (stands y.label)) 0)) xs) (written_told (F.tells (stands x.label)) 0)
      ∙ ap (λ (b : Bool). is_some (F.tells (stands x.label)) && b) (written_each stands xs)

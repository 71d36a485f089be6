-- The numbers of a sheet that can be written, by index.
use Rattle.std.proofs.Common.{◌≡◌, ℕ, zero, suc, ◌+◌, ◌-◌, ◌*◌, ◌/◌, ◌%◌, ◌≤◌, List, ◌∷◌, map, length, get_or, Some, sym, ap, ◌∙◌, subst, arith}
use Rattle.std.proofs.lemmas.List.{get_or_past, length-map}
use Rattle.std.proofs.lemmas.Nat.{div-add-mod', mod_below, mul-le}
use Rattle.std.proofs.lemmas.Option.{slice_get-map}
use Rattle.std.specs.List.{flat_map, slice_get}
use Rattle.std.specs.Option.{option_map}
use Rattle.label.specs.Form.{Form}
use Rattle.net.specs.Model.{line_of}
use Rattle.net.specs.declared.records.Line.{Line}
use Rattle.sheet.specs.Sheet.{line_numbers, AllWritten}
use Rattle.sheet.specs.Writing.{numbers_of}
use Rattle.sheet.proofs.Flat.{Even, joined_length, joined_at}
use Rattle.sheet.proofs.Records.{written_even}

past_three : (a b c : ℕ) (ns : List ℕ) (at : ℕ) → 3 ≤ at → get_or (a ∷ b ∷ c ∷ ns) at 0 ≡ get_or ns (at - 3) 0
past_three a b c ns zero h = absurd (let z : ⊥ = omega arith in z)
past_three a b c ns (suc zero) h = absurd (let z : ⊥ = omega arith in z)
past_three a b c ns (suc (suc zero)) h = absurd (let z : ⊥ = omega arith in z)
past_three a b c ns (suc (suc (suc n))) h = ap (λ (k : ℕ). get_or ns k 0) (let z : n ≡ suc (suc (suc n)) - 3 = omega arith in z)

-- a sheet has few numbers
pub few_numbers : {M : Type 0} (F : Form M) (n : ℕ) → n ≤ 96 → 3 + n * (2 + length F.slots) ≤ 393315
few_numbers F n h =
    let few = F.few in
    let product = mul-le n (2 + length F.slots) 96 4097 h (omega arith) in
    omega arith

module _ {L M : Type 0} (F : Form M) (stands : L → M) (nodes : ℕ) (list : List (Line L)) (can : AllWritten F (map (line_of stands) list)) where
  pub numbers_length : (kind : ℕ) → length (numbers_of F stands nodes list kind) ≡ 3 + length list * (2 + length F.slots)
  numbers_length kind =
      let ls = map (line_of stands) list in
      let w = 2 + length F.slots in
      let long : length (flat_map (line_numbers F) ls) ≡ length list * w = joined_length (line_numbers F) w ls (written_even F ls can) ∙ ap (λ (n : ℕ). n * w) (length-map list (line_of stands)) in
      omega arith

  -- the place of a line's number, among lines of w numbers each
  module _ (w : ℕ) (width : w ≡ 2 + length F.slots) where
    pub line_number_at : (kind at : ℕ) (x : Line L) → 3 ≤ at → slice_get list ((at - 3) / w) ≡ Some x → get_or (line_numbers F (line_of stands x)) ((at - 3) % w) 0 ≡ get_or (numbers_of F stands nodes list kind) at 0
    line_number_at kind at x h read =
        let ls = map (line_of stands) list in
        let i = (at - 3) / w in
        let k = (at - 3) % w in
        let even = subst (λ (v : ℕ). Even (line_numbers F) v ls) (sym width) (written_even F ls can) in
        let here : slice_get ls i ≡ Some (line_of stands x) = slice_get-map (line_of stands) list i ∙ ap (option_map (line_of stands)) read in
        sym (past_three kind nodes (length ls) (flat_map (line_numbers F) ls) at h ∙ ap (λ (n : ℕ). get_or (flat_map (line_numbers F) ls) n 0) (sym (div-add-mod' (at - 3) w))
        ∙ joined_at (line_numbers F) w ls i k (line_of stands x) 0 even here (mod_below (at - 3) w (omega arith)))

    -- past the last line there is none
    pub no_number_at : (kind at : ℕ) → 3 ≤ at → length list ≤ (at - 3) / w → 0 ≡ get_or (numbers_of F stands nodes list kind) at 0
    no_number_at kind at h past =
        let i = (at - 3) / w in
        let all = numbers_length kind in
        let below : length list * w ≤ i * w = mul-le (length list) w i w past (omega arith) in
        let far : at - 3 ≡ i * w + (at - 3) % w = sym (div-add-mod' (at - 3) w) in
        let as_w : length list * (2 + length F.slots) ≡ length list * w = ap (λ (v : ℕ). length list * v) (sym width) in
        sym (get_or_past (numbers_of F stands nodes list kind) at 0 (omega arith))

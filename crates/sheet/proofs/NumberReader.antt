-- Reading one number, in bytes that lead up to the end of a sheet: the bytes left tell the place.
use Rattle.std.proofs.Common.{◌≡◌, ℕ, ◌+◌, ◌-◌, ◌≤◌, List, ◌∷◌, ◌++◌, length, Ok, Err, Result, sym, refl, ap, ◌∙◌, subst, append_assoc, arith, length-append}
use Rattle.sheet.specs.Stored.{Small, stored, text}
use Rattle.sheet.specs.Faults.{Unreadable, ends, malformed}
use Rattle.sheet.specs.declared.faults.Placed.{Placed}
use Rattle.sheet.specs.declared.faults.BytesFault.{BytesFault}
use Rattle.sheet.specs.declared.faults.BytesFault.TheVariants as bytes
use Rattle.sheet.specs.declared.faults.SheetFault.{SheetFault}
use Rattle.sheet.specs.declared.faults.SheetFault.TheVariants as sheet
use Rattle.std.proofs.lemmas.Grind.{flat_map-append}
use Rattle.sheet.proofs.Decoding.{front, front_cut, front_malformed, front_stored}
use Rattle.sheet.proofs.Readers.{ok_err, One}

front_unreadable : {place end : ℕ} {bs : List ℕ} {f : Placed BytesFault} → Unreadable place end bs f → front bs ≡ Err f.fault
front_unreadable (ends c) = front_cut c
front_unreadable (malformed m) = front_malformed m

cut_malformed : ◌≡◌ {A = Result (ℕ × List ℕ) BytesFault} (Err bytes.Ends) (Err bytes.Malformed) → ⊥
cut_malformed e = let z : ◌≡◌ {A = ℕ} 0 1 = cc in omega arith

unreadable_one : {place end : ℕ} {bs : List ℕ} {f g : Placed BytesFault} → Unreadable place end bs f → Unreadable place end bs g → f ≡ g
unreadable_one (ends c) (ends d) = refl
unreadable_one (ends c) (malformed m) = absurd (cut_malformed (sym (front_cut c) ∙ front_malformed m))
unreadable_one (malformed m) (ends c) = absurd (cut_malformed (sym (front_cut c) ∙ front_malformed m))
unreadable_one (malformed m) (malformed n) = refl

module _ (end : ℕ) where
  pub data ANumber (bs : List ℕ) : Result (ℕ × List ℕ) SheetFault → Type 0 where
    some : (n : ℕ) (rest : List ℕ) → Small n → bs ≡ stored n ++ rest → ANumber bs (Ok (n, rest))
    none : (f : Placed BytesFault) → Unreadable (end - length bs) end bs f → ANumber bs (Err (sheet.Bytes f))

  pub number_one : (bs : List ℕ) → One (ANumber bs)
  number_one bs _ _ (some n rest h e) (some m left k d) =
      let same : ◌≡◌ {A = Result (ℕ × List ℕ) BytesFault} (Ok (n, rest)) (Ok (m, left)) = sym (front_stored n rest h) ∙ ap front (sym e ∙ d) ∙ front_stored m left k in
      cc
  number_one bs _ _ (some n rest h e) (none g u) = absurd (ok_err (n, rest) g.fault (sym (front_stored n rest h) ∙ ap front (sym e) ∙ front_unreadable u))
  number_one bs _ _ (none f u) (some m left k d) = absurd (ok_err (m, left) f.fault (sym (front_stored m left k) ∙ ap front (sym d) ∙ front_unreadable u))
  number_one bs _ _ (none f u) (none g v) = ap (λ x. Err (sheet.Bytes x)) (unreadable_one u v)

  -- the place after a front
  pub place_after : (bs s rest : List ℕ) → length bs ≤ end → bs ≡ s ++ rest → (end - length bs) + length s ≡ end - length rest
  place_after bs s rest h e = let n = ap length e ∙ length-append s rest in omega arith

  pub rest_within : (bs s rest : List ℕ) → length bs ≤ end → bs ≡ s ++ rest → length rest ≤ end
  rest_within bs s rest h e = let n = ap length e ∙ length-append s rest in omega arith

  -- no number after a front
  pub none_after : (bs s rest : List ℕ) (f : Placed BytesFault) → length bs ≤ end → bs ≡ s ++ rest → Unreadable ((end - length bs) + length s) end rest f → ANumber rest (Err (sheet.Bytes f))
  none_after bs s rest f h e u = none f (subst (λ (p : ℕ). Unreadable p end rest f) (place_after bs s rest h e) u)

  -- the first of the numbers at the front
  pub first_number : (n : ℕ) (ns bs rest : List ℕ) → Small n → bs ≡ text (n ∷ ns) ++ rest → ANumber bs (Ok (n, text ns ++ rest))
  first_number n ns bs rest h e = some n (text ns ++ rest) h (e ∙ append_assoc (stored n) (text ns) rest)

-- a place of the sheet, by the bytes after it
module _ (all : List ℕ) where
  pub place_at : (s rest : List ℕ) → all ≡ s ++ rest → length s ≡ length all - length rest
  place_at s rest e = let n = ap length e ∙ length-append s rest in omega arith

  pub place_between : (ns ms rest : List ℕ) → all ≡ text (ns ++ ms) ++ rest → length (text ns) ≡ length all - length (text ms ++ rest)
  place_between ns ms rest e = place_at (text ns) (text ms ++ rest) (e ∙ ap (λ t. t ++ rest) (flat_map-append stored ns ms) ∙ append_assoc (text ns) (text ms) rest)

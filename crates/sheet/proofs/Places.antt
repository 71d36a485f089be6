-- Numbers that stand one after another in the bytes.
use Rattle.std.proofs.Common.{◌≡◌, ℕ, ◌+◌, ◌≤◌, List, [], ◌∷◌, ◌++◌, length, drop, sym, refl, ap, ◌∙◌, append_assoc, add-zero, arith, length-append}
use Rattle.std.proofs.lemmas.List.{flat_map_more}
use Rattle.sheet.specs.Stored.{stored, text}
use Rattle.sheet.specs.Reading.{NumberAt, NumbersAt}

pub text_push : (ns : List ℕ) (n : ℕ) → text (ns ++ (n ∷ [])) ≡ text ns ++ stored n
text_push ns n = sym (flat_map_more stored [] ns n)

module _ (bytes : List ℕ) (place : ℕ) where
  pub numbers_none : place ≤ length bytes → NumbersAt bytes place [] place
  numbers_none h = record { bytes_are = refl; next_is = sym (add-zero place); within = h }

  pub numbers_more : (ns : List ℕ) (p n q : ℕ) → NumbersAt bytes place ns p → NumberAt bytes p n q → NumbersAt bytes place (ns ++ (n ∷ [])) q
  numbers_more ns p n q before one = record {
    bytes_are = before.bytes_are ∙ ap (λ (r : List ℕ). text ns ++ r) one.bytes_are ∙ sym (append_assoc (text ns) (stored n) (drop q bytes)) ∙ ap (λ (t : List ℕ). t ++ drop q bytes) (sym (text_push ns n));
    next_is =
        let long : length (text (ns ++ (n ∷ []))) ≡ length (text ns) + length (stored n) = ap length (text_push ns n) ∙ length-append (text ns) (stored n) in
        let a = before.next_is in
        let b = one.next_is in
        omega arith;
    within = one.within;
  }

  pub numbers_one : (n q : ℕ) → place ≤ length bytes → NumberAt bytes place n q → NumbersAt bytes place (n ∷ []) q
  numbers_one n q h one = numbers_more [] place n q (numbers_none h) one

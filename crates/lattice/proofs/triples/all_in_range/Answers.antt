use Rattle.std.proofs.Common.{◌≡◌, ◌↔◌, Bool, true, false, rules, length, List, [], ◌∷◌, ℤ, sym, refl, ◌∙◌, inl, inr, arith}
use Rattle.std.specs.List.{AllPass, list_all}
use Rattle.std.proofs.lemmas.Bool.{cases_Bool, both_ways}
use Rattle.std.proofs.lemmas.List.Sums.{AllPass-from_list_all, list_all-from_AllPass}
use Rattle.label.specs.Form.{inside, fit}
use Rattle.lattice.specs.Triples.{coord_slot, triple_slots}
use Rattle.lattice.proofs.triples.all_in_range.Goals as goal

three : (xs : List ℤ) → length xs ≡ 3 → list_all (inside coord_slot) xs ≡ fit triple_slots xs
three [] e = absurd (omega arith)
three (a ∷ []) e = absurd (omega arith)
three (a ∷ b ∷ []) e = absurd (omega arith)
three (a ∷ b ∷ c ∷ []) e = refl
three (a ∷ b ∷ c ∷ d ∷ xs) e = absurd (omega arith)

all_pass : (b : Bool) (xs : List ℤ) → (b ≡ true) ↔ AllPass (inside coord_slot) xs → b ≡ list_all (inside coord_slot) xs
all_pass true xs h = sym (list_all-from_AllPass (inside coord_slot) xs (h.0 refl))
all_pass false xs h =
    elim (cases_Bool (list_all (inside coord_slot) xs)) [
      | inl e ↦ absurd (both_ways false refl (h.1 (AllPass-from_list_all (inside coord_slot) xs e)))
      | inr e ↦ sym e
    ]

pub returns-then-numbers-eq-COUNT : goal.returns-then-numbers-eq-COUNT
returns-then-numbers-eq-COUNT c =
    let h : (c.all.result ≡ true) ↔ AllPass (inside coord_slot) c.args.numbers.now = search rules in
    all_pass c.all.result c.args.numbers.now h ∙ three c.args.numbers.now (omega arith)

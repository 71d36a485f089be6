use Rattle.std.proofs.Common.{◌≡◌, ◌<◌, ℕ, List, Bool, true, false, Some, Option, IfSome, rules, sym, refl, subst, eqb-true, eq-eqb}
use Rattle.std.proofs.lemmas.Bool.{both_ways}
use Rattle.std.proofs.iter.runs.Sources.{ranges}
use Rattle.symmetric.specs.Images.{occ, once, each_once}
use Rattle.symmetric.proofs.Occurrences.{once_from, not_once}
use Rattle.permutation.proofs.images.all_once.Goals as goal

tested : (b : Bool) (xs : List ℕ) (at : ℕ → Option ℕ) → (b ≡ true → (k : ℕ) → k < 8 → at k ≡ Some k) → (b ≡ true → (k : ℕ) → IfSome (at k) (λ x. once x xs ≡ true)) → (b ≡ false → ((k : ℕ) × (k < 8) × (once k xs ≡ false))) → b ≡ each_once xs
tested true xs at point each some =
    sym (once_from xs (λ k l. eqb-true (occ k xs) 1 (subst (λ o. IfSome o (λ x. once x xs ≡ true)) (point refl k l) (each refl k))))
tested false xs at point each some =
    let s = some refl in
    sym (not_once xs s.0 s.1 (λ e. both_ways (once s.0 xs) s.2 (eq-eqb (occ s.0 xs) 1 e)))

pub returns : goal.returns
returns c = tested c.all.result c.args.images.now c.all.ensures.runs.0.at (search (rules, ranges)) (search (rules, ranges)) (search (rules, ranges))

use Rattle.std.proofs.Common.{◌≡◌, ℕ, suc, ◌+◌, ◌-◌, ◌/◌, ◌%◌, ◌<◌, List, [], ◌∷◌, ◌++◌, length, take, set, sym, ap, ◌∙◌, append_assoc, arith, length-set, take_all}
use Rattle.std.proofs.lemmas.List.{take_more_set, append-nil}
use Rattle.symmetric.specs.Packing.{digits_of}
use Rattle.permutation.proofs.images.unpack.Goals as goal

-- one digit more
step : (xs : List ℕ) (i m : ℕ) → length xs ≡ 8 → i < 8 → take (i + 1) (set xs i (m % 8)) ++ digits_of (8 - (i + 1)) (m / 8) ≡ take i xs ++ digits_of (8 - i) m
step xs i m l h =
    let e : suc (8 - (i + 1)) ≡ 8 - i = omega arith in
    ap (λ (ys : List ℕ). ys ++ digits_of (8 - (i + 1)) (m / 8)) (take_more_set xs i (m % 8) (omega arith))
    ∙ append_assoc (take i xs) (m % 8 ∷ []) (digits_of (8 - (i + 1)) (m / 8)) ∙ ap (λ (k : ℕ). take i xs ++ digits_of k m) e

pub loop-image-preserved : goal.loop-image-preserved
loop-image-preserved c = (simp length-set c.loop-image.invariant.0, step c.loop-image.image-items c.loop-image.image-index c.loop-image.rest c.loop-image.invariant.0 (omega arith) ∙ c.loop-image.invariant.1)

done : (xs : List ℕ) (i m : ℕ) → length xs ≡ 8 → 8 ≡ i → take i xs ++ digits_of (8 - i) m ≡ xs
done xs i m l e =
    let z : 8 - i ≡ 0 = omega arith in
    ap (λ (k : ℕ). take i xs ++ digits_of k m) z ∙ append-nil (take i xs) ∙ take_all i xs (omega arith)

pub returns : goal.returns
returns c = sym (done c.loop-image.image-items c.loop-image.image-index c.loop-image.rest c.loop-image.invariant.0 (omega arith)) ∙ c.loop-image.invariant.1

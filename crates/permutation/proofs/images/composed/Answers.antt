use Rattle.std.proofs.Common.{◌≡◌, ℕ, ◌<◌, true, List, sym, subst, arith}
use Rattle.symmetric.specs.Images.{permutes}
use Rattle.symmetric.proofs.Laws.{facts_of, image_below, followed_is, permutes_followed}
use Rattle.permutation.proofs.images.composed.Goals as goal

pub bounds-second-image : goal.bounds-second-image
bounds-second-image c =
    let i = c.loop-image.image-index in
    subst (λ (k : ℕ). k < 8) (sym (c.loop-image.invariant.2 i (omega arith))) (image_below c.args.first.now (facts_of c.args.first.now c.requires.0) i (omega arith))

pub returns : goal.returns
returns c =
    let p = c.args.first.now in
    let q = c.args.second.now in
    let e = followed_is p q c.loop-image.image-items c.told-first c.loop-image.invariant.0 (λ k h. c.loop-image.invariant.1 k (omega arith)) in
    (e, subst (λ (xs : List ℕ). permutes xs ≡ true) (sym e) (permutes_followed (p, c.requires.0) (q, c.requires.1)))

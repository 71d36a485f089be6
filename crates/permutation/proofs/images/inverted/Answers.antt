use Rattle.std.proofs.Common.{◌≡◌, ℕ, ◌<◌, true, ◌≢◌, List, length, get_or, sym, subst, arith, length-set, get_or-set_other, get_or-set_same, below_more}
use Rattle.symmetric.specs.Images.{permutes}
use Rattle.symmetric.proofs.Laws.{facts_of, image_below, images_apart, undone_is, permutes_undone}
use Rattle.permutation.proofs.images.inverted.Goals as goal

pub bounds-inverse-image : goal.bounds-inverse-image
bounds-inverse-image c = image_below c.args.images.now (facts_of c.args.images.now c.requires) c.loop-point.point (omega arith)

pub loop-point-preserved : goal.loop-point-preserved
loop-point-preserved c =
    let p = c.args.images.now in
    let P = facts_of p c.requires in
    let r = c.loop-point.inverse in
    let i = c.loop-point.point in
    let hi : i < 8 = omega arith in
    let e = c.loop-point.invariant.0 in
    let b = image_below p P i hi in (
      simp length-set e,
      below_more _ _ (λ k h. let ne : get_or p k 0 ≢ get_or p i 0 = λ s. let t : k ≡ i = images_apart p P k i (omega arith) hi s in omega arith in rw get_or-set_other (c.loop-point.invariant.1 k h))
          (let lt : get_or p i 0 < length r = omega arith in rw get_or-set_same),
    )

pub returns : goal.returns
returns c =
    let p = c.args.images.now in
    let e = undone_is p (facts_of p c.requires) c.loop-point.inverse c.loop-point.invariant.0 (λ k h. c.loop-point.invariant.1 k (omega arith)) in
    (e, subst (λ (xs : List ℕ). permutes xs ≡ true) (sym e) (permutes_undone (p, c.requires)))

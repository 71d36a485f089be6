use Rattle.std.proofs.Common.{map, pos, sym, ◌∙◌, arith, ext_get_or}
use lib.ListN.{length-map}
use Rattle.std.proofs.lemmas.List.{get_or-map}
use Rattle.symmetric.proofs.Occurrences.{points_from}
use Rattle.permutation.proofs.kind.images_in.Goals as goal

pub returns : goal.returns
returns c =
    let xs = c.args.numbers.now in
    let ys = c.loop-i.images in
    let f = c.loop-i.invariant.1 in
    let l = c.loop-i.invariant.0 in (
      ext_get_or (pos 0) xs (map pos ys) (omega (arith, length-map ys pos)) (λ i h. (f i (omega arith)).0 ∙ sym (get_or-map pos ys i 0 (pos 0) (omega arith))),
      points_from ys (λ i h. (f i (omega arith)).1),
    )

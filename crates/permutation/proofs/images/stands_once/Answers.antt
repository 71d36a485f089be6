use Rattle.std.proofs.Common.{ℕ, Bool, ◌^◌, ◌<◌, ◌≤◌, length, nat_eq, cond, count_by, arith, rules, tests}
use Rattle.std.proofs.lemmas.Iterator.{YieldsList-from_slice, YieldsList-from_map}
use Rattle.std.proofs.lemmas.Iterator.Consumers.{fits_by_from_yields_list}
use Rattle.std.proofs.lemmas.List.Sums.{count_by-le-length}
use Rattle.permutation.proofs.images.stands_once.Goals as goal

pub sum-requires-clause-fits : goal.sum-requires-clause-fits
sum-requires-clause-fits c =
    let is : ℕ → Bool = λ x. nat_eq x c.args.k in
    let xs = c.args.images.now in
    let few : count_by is xs ≤ length xs = count_by-le-length is xs in
    let long : length xs < 2 ^ 63 = search (rules, arith) in
    fits_by_from_yields_list (λ x. cond (is x) 1 0) xs c.map.result (2 ^ 64)
    (YieldsList-from_map _ (λ x. cond (is x) 1 0) (YieldsList-from_slice xs (search (rules))) c.map.ensures.closure (λ x r q k. search (rules, tests))) (omega (arith, few, long))

use Rattle.std.proofs.Common.{◌≡◌, map}
use Rattle.std.specs.List.{range_with_len}
use Rattle.survey.specs.Found.{found}
use Rattle.survey.proofs.Seals.{home_entry}
use Rattle.survey.proofs.sealing.place_homes.Given as goal

abbrev pub invariant-loop-v : goal.invariant-loop-v
invariant-loop-v g l = found g.L.Label.stands l.v l.homes ≡ map (home_entry g.L.Label.group) (range_with_len 0 l.v)

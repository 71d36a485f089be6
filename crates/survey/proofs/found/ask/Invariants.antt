use Rattle.std.proofs.Common.{ℕ, ◌-◌, ◌<◌, length}
use Rattle.growth.specs.Entry.{about}
use Rattle.survey.specs.Found.{junction_of}
use Rattle.survey.specs.Searching.{Comes}
use Rattle.survey.specs.Asking.{HasIt}
use Rattle.survey.proofs.found.ask.Given as goal

abbrev pub invariant-loop-next : goal.invariant-loop-next
invariant-loop-next g l =
    let x = about l.centre (junction_of g.L.Label.stands l.junction) in
    (l.at < length l.records) × Comes g.L.Label.order g.L.Label.stands (length l.records) l.records x l.centre l.at × ((k : ℕ) → HasIt g.L.Label.order g.L.Label.stands (length l.records) l.records x k → Comes g.L.Label.order g.L.Label.stands (length l.records) l.records x l.centre k → Comes g.L.Label.order g.L.Label.stands (length l.records) l.records x l.at k)

abbrev pub decreases-loop-next : goal.decreases-loop-next
decreases-loop-next g l = length l.records - l.at

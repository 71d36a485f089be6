use Rattle.std.proofs.Common.{◌≡◌}
use Rattle.lattice.specs.Screws.{place, turns}
use Rattle.lattice.proofs.plane.Place.turned.Given as goal

abbrev pub invariant-loop : goal.invariant-loop
invariant-loop l = place l.place.x l.place.y ≡ turns l.counter (place l.fn.self.x l.fn.self.y)

use Rattle.std.proofs.Common.{ap, ◌∙◌, arith}
use Rattle.growth.specs.Entry.{about, at_distance}
use Rattle.mesh.specs.Junction.{spot}
use Rattle.survey.specs.Found.{entry_of}
use Rattle.survey.proofs.Seals.{homes_more}
use Rattle.survey.proofs.sealing.place_homes.Goals as goal

pub loop-v-preserved : goal.loop-v-preserved
loop-v-preserved g c =
    let long = c.loop-v.auto.homes in
    homes_more g.L.Label.group g.L.Label.order g.L.Label.stands c.loop-v.homes c.loop-v.v c.unlinked.result (omega arith)
    (ap (entry_of g.L.Label.stands) c.unlinked.ensures ∙ ap (λ h. at_distance 0 (about c.loop-v.v (spot c.loop-v.v h))) c.identity.ensures) c.loop-v.invariant

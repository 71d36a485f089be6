use Rattle.std.proofs.Common.{refl, map, inl, inr, arith}
use Rattle.std.proofs.lemmas.Bool.Decides.{not_from_Decides}
use Rattle.mesh.proofs.Ported.{ports_count_push}
use Rattle.net.specs.Verdict.{here, later}
use Rattle.net.specs.Model.{line_of}
use Rattle.net.proofs.rules.ports_allowed.Goals as goal
use Rattle.net.proofs.rules.ports_allowed.Goals.{then-too_many-via-then-too_many, then-too_many-via-else-too_many+then-too_many-2}

pub returns-then-port_taken : goal.returns-then-port_taken
returns-then-port_taken g c = λ nodes room lent. (here (c.if-port_taken.ensures.0 refl), tt)

pub returns-then-too_many : goal.returns-then-too_many
returns-then-too_many g c =
    λ nodes room lent.
    let l = line_of g.L.Label.stands c.args.line in
    let before = map (line_of g.L.Label.stands) c.args.lines.now in
    let tail = ports_count_push g.L.Label.group l.tail before l in
    let head = ports_count_push g.L.Label.group l.head before l in (
      later (not_from_Decides _ c.if-port_taken.ensures refl) (here (elim c.then-too_many.branch [
        | then-too_many-via-then-too_many w ↦ inl (omega (arith, w.if-too_many.ensures))
        | then-too_many-via-else-too_many+then-too_many-2 w ↦ inr (omega (arith, w.if-too_many-2.ensures))
      ])),
      tt,
    )

pub returns : goal.returns
returns g c =
    λ nodes room lent.
    let l = line_of g.L.Label.stands c.args.line in
    let before = map (line_of g.L.Label.stands) c.args.lines.now in
    let tail = ports_count_push g.L.Label.group l.tail before l in
    let head = ports_count_push g.L.Label.group l.head before l in
    let few_tail = c.if-too_many.ensures in
    let few_head = c.if-too_many-2.ensures in
    ((not_from_Decides _ c.if-port_taken.ensures refl, (λ full. elim full [ inl t ↦ omega arith | inr h ↦ omega arith ], tt)), tt)

use Rattle.std.proofs.Common.{◌≡◌, ◌+◌, List, [], ◌∷◌, ◌++◌, take, sym, ap, ◌∙◌, subst}
use Rattle.std.proofs.lemmas.List.{take_more, take_all}
use Rattle.run.specs.Played.{PlayClause}
use Rattle.run.specs.declared.state.Call.{Call}
use Rattle.run.proofs.Turns.{play_none, play_more}
use Rattle.run.proofs.driver.play.Goals as goal

pub loop-call-init : goal.loop-call-init
loop-call-init g c = play_none g.L.Label.group g.L.Label.order g.L.Label.stands c.args.start c.args.list.now c.args.pool.now

pub loop-call-preserved : goal.loop-call-preserved
loop-call-preserved g c =
    let calls = c.args.calls.now in
    let i = c.loop-call.call-index in
    let call = c.call-item.result in
    let more : take i calls ++ (call ∷ []) ≡ take (i + 1) calls =
    ap (λ (x : Call g.row.L.Denot). take i calls ++ (x ∷ [])) c.call-item.is ∙ sym (take_more calls i call c.loop-call-test.true) in
    subst (λ (cs : List (Call g.row.L.Denot)). PlayClause g.L.Label.group g.L.Label.order g.L.Label.stands c.args.start cs c.args.list.now c.args.pool.now c.turn-state.result c.turn-state.new.list c.turn-state.new.pool) more
    (play_more g.L.Label.group g.L.Label.order g.L.Label.stands c.args.start c.args.list.now c.args.pool.now (take i calls) call c.loop-call.state c.turn-state.result c.loop-call.list c.turn-state.new.list c.loop-call.pool c.turn-state.new.pool c.loop-call.invariant c.loop-call.auto.list c.loop-call.auto.pool c.turn-state.ensures)

pub returns : goal.returns
returns g c =
    let calls = c.args.calls.now in
    let i = c.loop-call.call-index in
    subst (λ (cs : List (Call g.row.L.Denot)). PlayClause g.L.Label.group g.L.Label.order g.L.Label.stands c.args.start cs c.args.list.now c.args.pool.now c.loop-call.state c.loop-call.list c.loop-call.pool) (take_all i calls c.loop-call-test.false) c.loop-call.invariant

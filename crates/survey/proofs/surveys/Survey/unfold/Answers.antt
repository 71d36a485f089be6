use Rattle.std.proofs.Common.{rules, ◌≡◌, suc, ℕ, sym, subst, arith}
use Rattle.std.proofs.lemmas.Result.{err_from_is_err_and}
use Rattle.survey.specs.Unfolding.{Unfolded}
use Rattle.survey.proofs.Unfolds.{unfold_more, unfold_short}
use Rattle.survey.proofs.surveys.Survey.unfold.Goals as goal

pub loop-centre-preserved : goal.loop-centre-preserved
loop-centre-preserved g c =
    let s = c.args.self.now in
    let v = c.loop-centre.centre in
    let begins = c.shell.ensures.begins in
    let ends = c.shell.ensures.ends in
    let within = s.inside s.radius (suc v) (omega arith) (omega arith) in
    let name = sym (c.note_shell.ensures s.draft.nodes).steady.same in
    unfold_more g.L.Label.group g.L.Label.order g.L.Label.stands s c.args.list.now c.args.pool.now (omega arith) c.loop-centre.marks _ c.note_shell.new.self c.loop-centre.auto.pool (omega arith) (omega arith) c.loop-centre.invariant
    c.shell.result.start c.shell.result.end begins ends (omega arith) c.lines.result c.lines.ensures (c.in_ok-note_shell.ensures s.draft.nodes) (omega arith) _ (search rules)

pub returns-in_err-note_shell : goal.returns-in_err-note_shell
returns-in_err-note_shell g c =
    let s = c.args.self.now in
    let v = c.loop-centre.centre in
    let p = err_from_is_err_and c.from_residual.result c.from_residual.ensures.1 in
    let begins = c.shell.ensures.begins in
    let ends = c.shell.ensures.ends in
    let within = s.inside s.radius (suc v) (omega arith) (omega arith) in
    let name = sym (c.note_shell.ensures s.draft.nodes).steady.same in
    rw p.1
    (unfold_short g.L.Label.group g.L.Label.order g.L.Label.stands s c.args.list.now c.args.pool.now (omega arith) c.loop-centre.marks _ c.note_shell.new.self c.loop-centre.auto.pool (omega arith) (omega arith) c.loop-centre.invariant
    c.shell.result.start c.shell.result.end begins ends (omega arith) c.lines.result c.lines.ensures p.0 (c.in_err-note_shell.ensures s.draft.nodes) _ (search rules))

pub returns : goal.returns
returns g c =
    let all : c.loop-centre.centre ≡ c.args.self.now.draft.nodes = omega arith in
    subst (λ (k : ℕ). Unfolded g.L.Label.group g.L.Label.order g.L.Label.stands c.args.self.now c.args.list.now c.args.pool.now k (record { used = c.loop-centre.used; marks = c.loop-centre.marks }) c.loop-centre.pool) all c.loop-centre.invariant

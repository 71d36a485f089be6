use Rattle.std.proofs.Common.{◌<◌, ◌≤◌, length, Ok, Err, ◌∙◌, inl, inr, arith}
use Rattle.std.proofs.lemmas.Option.{slice_get-get_or}
use Rattle.std.proofs.lemmas.Result.{err_from_is_err_and}
use Rattle.net.specs.Verdict.{here, later}
use Rattle.growth.specs.Entry.{about}
use Rattle.survey.specs.Found.{junction_of}
use Rattle.survey.proofs.Fronts.{ask_front}
use Rattle.survey.proofs.Answers.{reach_found, reach_missing}
use Rattle.survey.proofs.Tested.{lent_known}
use Rattle.survey.proofs.surveys.Survey.distance.Goals as goal

pub returns-in_err-check_lent : goal.returns-in_err-check_lent
returns-in_err-check_lent g c =
    let p = err_from_is_err_and c.from_residual.result c.from_residual.ensures.1 in
    rw (p.1, p.2 ∙ c.in_err-check_lent.ensures.0) (here c.in_err-check_lent.ensures.1, tt)

pub returns-in_err-check_node : goal.returns-in_err-check_node
returns-in_err-check_node g c =
    let own = lent_known c.args.self.now _ _ c.in_ok-check_lent.ensures in
    let p = err_from_is_err_and c.from_residual-in_err-check_node.result c.from_residual-in_err-check_node.ensures.1 in
    rw (p.1, p.2 ∙ c.in_err-check_node.ensures.0) (later own (here (inl c.in_err-check_node.ensures.1)), tt)

pub returns-in_err-check_node-2 : goal.returns-in_err-check_node-2
returns-in_err-check_node-2 g c =
    let own = lent_known c.args.self.now _ _ c.in_ok-check_lent.ensures in
    let p = err_from_is_err_and c.from_residual-in_err-check_node-2.result c.from_residual-in_err-check_node-2.ensures.1 in
    rw (p.1, p.2 ∙ c.in_err-check_node-2.ensures.0) (later own (here (inr c.in_err-check_node-2.ensures.1)), tt)

pub returns-in-Ok : goal.returns-in-Ok
returns-in-Ok g c =
    let s = c.args.self.now in
    let pool = c.args.pool.now in
    let at = c.in-Ok.at in
    let lent = c.in_ok-check_lent.ensures in
    let x = about c.args.v (junction_of g.L.Label.stands c.args.to) in
    let is_node : c.args.v < s.draft.nodes = omega arith in
    let room : s.used ≤ length pool = omega arith in
    let told = ask_front g.L.Label.order g.L.Label.stands s.used pool x room c.args.v (let h = s.homes in omega arith) (Ok at) c.in-Ok.ensures in
    let inside : at < length pool = let h = told.0 in omega arith in (
      (lent_known s _ _ lent, ((λ k. elim k [ inl h ↦ (let z : ⊥ = omega arith in z) | inr h ↦ (let z : ⊥ = omega arith in z) ]), tt)),
      reach_found g.L.Label.group g.L.Label.order g.L.Label.stands s c.args.list.now pool c.args.v c.args.to is_node room at _ told.0 (slice_get-get_or pool at c.index-pool-at.result inside) told.1,
    )

pub returns-in-Err : goal.returns-in-Err
returns-in-Err g c =
    let s = c.args.self.now in
    let pool = c.args.pool.now in
    let x = about c.args.v (junction_of g.L.Label.stands c.args.to) in
    let is_node : c.args.v < s.draft.nodes = omega arith in
    let room : s.used ≤ length pool = omega arith in
    let told = ask_front g.L.Label.order g.L.Label.stands s.used pool x room c.args.v (let h = s.homes in omega arith) (Err c.in-Err.field-0) c.in-Err.ensures in
    let lent = c.in_ok-check_lent.ensures in (
      (lent_known s _ _ lent, ((λ k. elim k [ inl h ↦ (let z : ⊥ = omega arith in z) | inr h ↦ (let z : ⊥ = omega (arith, c.in_ok-check_node-2.ensures) in z) ]), tt)),
      reach_missing g.L.Label.group g.L.Label.order g.L.Label.stands s c.args.list.now pool c.args.v c.args.to is_node room c.in-Err.field-0 told,
    )

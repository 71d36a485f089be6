use Rattle.std.proofs.Common.{◌≡◌, length, ◌∙◌, refl, arith, rules}
use Rattle.std.proofs.lemmas.Result.{err_from_is_err_and}
use Rattle.net.specs.Verdict.{here, later}
use Rattle.survey.specs.declared.refusals.SurveyRefusal.TheVariants as refusal
use Rattle.survey.proofs.Tested.{lent_known}
use Rattle.survey.proofs.Grows.{not_strange, grow_early, grow_short, grow_done, frontier_ascend, frontier_inside}
use Rattle.survey.proofs.surveys.Survey.grow.Goals as goal

pub returns-in_err-check_lent : goal.returns-in_err-check_lent
returns-in_err-check_lent g c =
    let s = c.args.self.now in
    let p = err_from_is_err_and c.from_residual.result c.from_residual.ensures.1 in
    let t = c.in_err-check_lent.ensures in
    rw (p.1, p.2 ∙ t.0) (grow_early g.L.Label.group g.L.Label.order g.L.Label.stands s c.args.list.now c.args.pool.now refusal.OtherLength (here t.1) (λ o h. not_strange g.L.Label.group g.L.Label.order g.L.Label.stands s c.args.list.now c.args.pool.now o t.1))

pub returns-then-self-ge-MOST_RADIUS : goal.returns-then-self-ge-MOST_RADIUS
returns-then-self-ge-MOST_RADIUS g c =
    let s = c.args.self.now in
    grow_early g.L.Label.group g.L.Label.order g.L.Label.stands s c.args.list.now c.args.pool.now refusal.RadiusFull
    (later (lent_known s _ _ c.in_ok-check_lent.ensures) (here c.if-self-ge-MOST_RADIUS.true)) (λ o h. let z : ⊥ = omega arith in z)

pub returns-in_err-used : goal.returns-in_err-used
returns-in_err-used g c =
    let u = c.in_err-used.ensures in
    let p = err_from_is_err_and c.from_residual-in_err-used.result c.from_residual-in_err-used.ensures.1 in
    rw (p.1, p.2)
    (grow_short g.L.Label.group g.L.Label.order g.L.Label.stands c.args.self.now c.args.list.now c.args.pool.now c.in_ok-check_lent.ensures (omega arith) c.unfold.new.pool c.unfold.auto.pool u.0 u.1)

pub invariant_of-self : goal.invariant_of-self
invariant_of-self g c =
    let s = c.args.self.now in
    let lent = c.in_ok-check_lent.ensures in
    let u = c.in_ok-used.ensures in
    let f = c.in_ok-used.field-0 in
    let more = u.more in
    let room = u.room in
    let marked : length s.marks ≡ 17 = search rules in
    record {
      small_radius = omega arith;
      few_records = omega arith;
      homes = omega arith;
      in_room = omega arith;
      ascend = frontier_ascend g.L.Label.group g.L.Label.order g.L.Label.stands s c.args.list.now c.args.pool.now lent (omega arith) c.unfold.new.pool c.unfold.auto.pool f u marked;
      inside = frontier_inside g.L.Label.group g.L.Label.order g.L.Label.stands s c.args.list.now c.args.pool.now lent (omega arith) c.unfold.new.pool c.unfold.auto.pool f u marked;
    }

pub returns : goal.returns
returns g c =
    let s = c.args.self.now in
    let marked : length s.marks ≡ 17 = search rules in
    grow_done g.L.Label.group g.L.Label.order g.L.Label.stands s c.args.list.now c.args.pool.now c.in_ok-check_lent.ensures (omega arith) c.unfold.new.pool c.unfold.auto.pool c.in_ok-used.field-0 c.in_ok-used.ensures marked _ refl refl refl refl refl

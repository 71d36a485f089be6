use Rattle.std.proofs.Common.{◌≡◌, ◌-◌, true, length, sym, ◌∙◌, arith}
use Rattle.label.specs.PairForm.{roomy}
use Rattle.label.proofs.Seams.{written_first, written_second}
use Rattle.label.proofs.pairs.PairLabel.written.Goals as goal

pub returns-then-at-NUMBERS : goal.returns-then-at-NUMBERS
returns-then-at-NUMBERS g c =
    let F = g.A.Label.form in
    let G = g.B.Label.form in
    let a = c.NUMBERS.ensures ∙ g.met.A.Label.counted in
    let b = c.NUMBERS-2.ensures ∙ g.met.B.Label.counted in
    let n = c.NUMBERS-4.ensures ∙ g.met.A.Label.counted in
    let r : roomy F G ≡ true = cc in
    sym (written_first F G _ c.args.at _ r _ _ (omega arith) (sym c.in_ok-first.ensures) (sym c.in_ok-second.ensures))

pub returns-else-at-NUMBERS : goal.returns-else-at-NUMBERS
returns-else-at-NUMBERS g c =
    let F = g.A.Label.form in
    let G = g.B.Label.form in
    let a = c.NUMBERS.ensures ∙ g.met.A.Label.counted in
    let b = c.NUMBERS-2.ensures ∙ g.met.B.Label.counted in
    let m = c.NUMBERS-3.ensures ∙ g.met.A.Label.counted in
    let n = c.NUMBERS-4.ensures ∙ g.met.A.Label.counted in
    let r : roomy F G ≡ true = cc in
    let s : c.saturating_sub.result ≡ c.args.at - length F.slots = cc in
    let k = rw s at c.in_ok-second.ensures in
    sym (written_second F G _ c.args.at _ r _ _ (omega arith) (sym c.in_ok-first.ensures) (sym k))

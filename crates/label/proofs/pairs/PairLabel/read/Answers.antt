use Rattle.std.proofs.Common.{◌≡◌, ◌+◌, true, false, length, take, drop, sym, ap, ◌∙◌, subst, arith, length-append}
use Rattle.std.proofs.lemmas.Bool.{both_ways}
use Rattle.label.specs.Clauses.{ReadClause}
use Rattle.label.specs.PairForm.{pair_form, pair_counted, roomy}
use Rattle.label.proofs.Seams.{stand_beside, out_of_range, in_range_counts, pair_read}
use Rattle.label.proofs.pairs.PairLabel.read.Goals as goal
use Rattle.label.proofs.pairs.PairLabel.read.Goals.{then-not-few_together-via-then-not-few_together, then-not-few_together-via-else-not-few_together+then-numbers-NUMBERS}

pub returns-then-not-few_together : goal.returns-then-not-few_together
returns-then-not-few_together g c =
    let F = g.A.Label.form in
    let G = g.B.Label.form in
    let a = c.NUMBERS.ensures ∙ g.met.A.Label.counted in
    let b = c.NUMBERS-2.ensures ∙ g.met.B.Label.counted in
    out_of_range (pair_form F G) (stand_beside g.A.Label.stands g.B.Label.stands) c.args.numbers.now (λ e.
    let n = in_range_counts F G c.args.numbers.now e in
    elim c.then-not-few_together.branch [
      | then-not-few_together-via-then-not-few_together w ↦
          let no : roomy F G ≡ false = cc in
          both_ways (roomy F G) no n.0
      | then-not-few_together-via-else-not-few_together+then-numbers-NUMBERS w ↦
          let s : w.NUMBERS-else-not-few_together.result ≡ length F.slots + length G.slots =
          w.NUMBERS-else-not-few_together.ensures ∙ pair_counted F G g.met.A.Label.counted g.met.B.Label.counted ∙ rw (n.0, length-append F.slots G.slots)
          in
          w.if-numbers-NUMBERS.true (omega arith)
    ])

pub returns : goal.returns
returns g c =
    let F = g.A.Label.form in
    let G = g.B.Label.form in
    let xs = c.args.numbers.now in
    let a = c.NUMBERS.ensures ∙ g.met.A.Label.counted in
    let b = c.NUMBERS-2.ensures ∙ g.met.B.Label.counted in
    let n = c.NUMBERS-3.ensures ∙ g.met.A.Label.counted in
    let r : roomy F G ≡ true = cc in
    let h = subst (λ ys. ReadClause F g.A.Label.stands ys c.read.result) (c.split_at.ensures.front ∙ ap (λ m. take m xs) n) c.read.ensures in
    let k = subst (λ ys. ReadClause G g.B.Label.stands ys c.read-2.result) (c.split_at.ensures.back ∙ ap (λ m. drop m xs) n) c.read-2.ensures in
    let whole = pair_read g.A.Label.stands g.B.Label.stands F G xs c.read.result c.read-2.result r h k in
    subst (ReadClause (pair_form F G) (stand_beside g.A.Label.stands g.B.Label.stands) xs) (sym c.joined.ensures) whole

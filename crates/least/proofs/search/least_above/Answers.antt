use Rattle.std.proofs.Common.{◌≡◌, ◌<◌, true, MatchBool, length, take, Some, arith, rules}
use Rattle.std.specs.Prelude.{MatchOption}
use Rattle.least.specs.Bounds.{Lower}
use Rattle.least.proofs.Fold.{above_floor, below_least, taken, kept, one_more}
use Rattle.least.proofs.search.least_above.Goals as goal
use Rattle.least.proofs.search.least_above.Goals.{then-above+then-is_none_or, else-above, else-above-via-then-above+else-is_none_or, else-above-via-else-above}

pub loop-entry-preserved : goal.loop-entry-preserved
loop-entry-preserved g c =
    let O = g.T.Ranked.order in
    let rank = g.T.Ranked.rank in
    let i = c.loop-entry.entry-index in
    let x = c.entry-item.result in
    let best = c.loop-entry.least in
    let before = take i c.args.entries.now in
    let inside : i < length c.args.entries.now = omega arith in
    let grown = one_more O rank c.args.entries.now c.args.floor i x inside c.entry-item.is in
    let asked : MatchOption c.args.floor (c.is_none_or-above.result ≡ true) (λ m. MatchBool c.is_none_or-above.result (Lower O rank m x) (Lower O rank m x → ⊥)) = search rules in
    let above = above_floor O rank x c.args.floor c.is_none_or-above.result asked in
    elim c.if-above.branch [
      | then-above+then-is_none_or w ↦
          let lower : MatchOption best (w.is_none_or.result ≡ true) (λ m. MatchBool w.is_none_or.result (Lower O rank x m) (Lower O rank x m → ⊥)) = search rules in
          let below = below_least O rank x best w.is_none_or.result lower in
          grown (Some x) c.if-above.least w.least-is (taken O rank before c.args.floor x best c.loop-entry.invariant (above.0 w.if-above.true) (below.0 w.if-is_none_or.true))
      | else-above w ↦
          grown best c.if-above.least w.least-is
          (kept O rank before c.args.floor x best c.loop-entry.invariant (λ up down. elim w.else-above.branch [
            | else-above-via-then-above+else-is_none_or v ↦
                let lower : MatchOption best (v.is_none_or.result ≡ true) (λ m. MatchBool v.is_none_or.result (Lower O rank x m) (Lower O rank x m → ⊥)) = search rules in
                (below_least O rank x best v.is_none_or.result lower).1 v.if-is_none_or.false down
            | else-above-via-else-above v ↦ above.1 v.if-above.false up
          ]))
    ]

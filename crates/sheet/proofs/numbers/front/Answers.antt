use Rattle.sheet.proofs.Beginnings.{front_one, front_two, front_three, second_zero, third_wrong, cut_none, cut_one, cut_two}
use Rattle.sheet.proofs.numbers.front.Goals as goal

pub returns-in-len1-up : goal.returns-in-len1-up
returns-in-len1-up c = rw c.from.ensures (front_one c.args.bytes.now c.in-len1-up.len_at_least c.if-a-lt128.true)

pub returns-in-len2-up : goal.returns-in-len2-up
returns-in-len2-up c = second_zero c.args.bytes.now c.in-len2-up.len_at_least c.if-a-lt128.false c.if-b-eq0.true

pub returns-in-len2-up-2 : goal.returns-in-len2-up-2
returns-in-len2-up-2 c =
    rw (c.from-in-len2-up-2.ensures, c.from-in-len2-up-2-2.ensures) (front_two c.args.bytes.now c.in-len2-up-2.len_at_least c.if-a-lt128.false (c.type_inv.bytes 0).fits c.if-b-eq0.false c.if-b-lt128.true)

pub returns-in-len3-up : goal.returns-in-len3-up
returns-in-len3-up c = third_wrong c.args.bytes.now c.in-len3-up.len_at_least c.if-a-lt128.false c.if-b-lt128.false c.if-no_last.ensures

pub returns-in-len3-up-2 : goal.returns-in-len3-up-2
returns-in-len3-up-2 c =
    rw (c.from-in-len3-up-2-3.ensures, c.from-in-len3-up-2.ensures, c.from-in-len3-up-2-2.ensures)
    (front_three c.args.bytes.now c.in-len3-up.len_at_least c.if-a-lt128.false (c.type_inv.bytes 0).fits c.if-b-lt128.false (c.type_inv.bytes 1).fits c.if-no_last.ensures.0 c.if-no_last.ensures.1)

pub returns-in_default : goal.returns-in_default
returns-in_default c = cut_none c.args.bytes.now c.in_default.len_below

pub returns-in_default-2 : goal.returns-in_default-2
returns-in_default-2 c = cut_one c.args.bytes.now c.in-len1-up.len_at_least c.in_default.len_below c.if-a-lt128.false

pub returns-in_default-4 : goal.returns-in_default-4
returns-in_default-4 c = cut_two c.args.bytes.now c.in-len2-up.len_at_least c.in_default.len_below c.if-a-lt128.false c.if-b-lt128.false

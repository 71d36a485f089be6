use Rattle.std.proofs.Common.{sym, ap, ◌∙◌, w32, SFits, rules}
use Rattle.std.proofs.lemmas.Int.{to_z-of_z}
use Rattle.sheet.specs.Codes.{code}
use Rattle.sheet.proofs.Tellings.{told_at, past_slots, past_numbers, untold}
use Rattle.sheet.proofs.writing.label_number.Goals as goal

pub returns-in-Some-Ok-Some : goal.returns-in-Some-Ok-Some
returns-in-Some-Ok-Some g c =
    let F = g.L.Label.form in
    let s = c.in-Some-Ok-Some.slot in
    let n = c.in-Some-Ok-Some.n in
    let fits : SFits w32 n = search rules in
    let at = told_at F.slots (F.tells (g.L.Label.stands c.args.label)) c.args.at s n (sym c.in-Some-Ok-Some.ensures) (search rules) in
    c.coded.ensures ∙ ap (code s.storage) (to_z-of_z w32 n fits) ∙ sym at

-- no number, by what the label tells of its written form
pub returns-in_default : goal.returns-in_default
returns-in_default g c =
    let F = g.L.Label.form in
    sym (past_numbers F.slots (F.tells (g.L.Label.stands c.args.label)) c.args.at (search rules))

-- no written form
pub returns-in_default-2 : goal.returns-in_default-2
returns-in_default-2 g c =
    let F = g.L.Label.form in
    sym (untold F.slots (F.tells (g.L.Label.stands c.args.label)) c.args.at _ (sym c.written.ensures ∙ c.in_default.is-1))

-- no slot
pub returns-in_default-3 : goal.returns-in_default-3
returns-in_default-3 g c =
    let F = g.L.Label.form in
    sym (past_slots F.slots (F.tells (g.L.Label.stands c.args.label)) c.args.at (sym c.slot.ensures ∙ c.in_default.is-0))

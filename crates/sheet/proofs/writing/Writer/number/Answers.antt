use Rattle.std.proofs.Common.{◌≡◌, ℕ, ◌+◌, ◌≤◌, length, map, refl, ap, ◌∙◌, arith}
use Rattle.std.proofs.lemmas.Option.{slice_get_read}
use Rattle.net.specs.Model.{line_of}
use Rattle.sheet.proofs.Indices.{line_number_at, no_number_at}
use Rattle.sheet.proofs.Records.{written_from}
use Rattle.sheet.proofs.writing.Writer.number.Goals as goal

pub returns-in-Some : goal.returns-in-Some
returns-in-Some g c =
    let F = g.K.Label.form in
    let s = c.args.self.now in
    let w = 2 + c.NUMBERS-long.result in
    let width : w ≡ 2 + length F.slots = ap (λ (n : ℕ). 2 + n) (c.NUMBERS-long.ensures ∙ g.met.K.Label.counted) in
    let past : 3 ≤ c.args.at = omega arith in
    let can = written_from F (map (line_of g.K.Label.stands) s.lines.now) s.written in
    c.line_number.ensures ∙ line_number_at F g.K.Label.stands s.nodes s.lines.now can w width g.K.SheetKind.KIND c.args.at c.in-Some.line.now past (slice_get_read _ _ _ _ refl c.in-Some.ensures.lookup.3.0 c.in-Some.ensures.lookup.1)

pub returns-in-None : goal.returns-in-None
returns-in-None g c =
    let F = g.K.Label.form in
    let s = c.args.self.now in
    let w = 2 + c.NUMBERS-long.result in
    let width : w ≡ 2 + length F.slots = ap (λ (n : ℕ). 2 + n) (c.NUMBERS-long.ensures ∙ g.met.K.Label.counted) in
    let past : 3 ≤ c.args.at = omega arith in
    let can = written_from F (map (line_of g.K.Label.stands) s.lines.now) s.written in
    no_number_at F g.K.Label.stands s.nodes s.lines.now can w width g.K.SheetKind.KIND c.args.at past c.in-None.ensures.lookup.3

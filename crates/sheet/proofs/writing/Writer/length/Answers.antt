use Rattle.std.proofs.Common.{ℕ, length, get_or, map, ◌∙◌, arith, rules, tests}
use Rattle.std.proofs.lemmas.Iterator.{YieldsList-from_range, YieldsList-from_map}
use Rattle.std.proofs.lemmas.Iterator.Consumers.{sum_by_from_yields_List, fits_by_from_yields_list}
use Rattle.std.specs.List.{range_with_len}
use Rattle.net.specs.Model.{line_of}
use Rattle.sheet.specs.Stored.{stored}
use Rattle.sheet.specs.Writing.{numbers_of}
use Rattle.sheet.proofs.Indices.{few_numbers, numbers_length}
use Rattle.sheet.proofs.Records.{written_from}
use Rattle.sheet.proofs.Texts.{lengths_sum, text_short}
use Rattle.sheet.proofs.writing.Writer.length.Goals as goal

pub sum-requires-clause-fits : goal.sum-requires-clause-fits
sum-requires-clause-fits g c =
    let F = g.K.Label.form in
    let s = c.args.self.now in
    let n = c.number_count.result in
    let ns = numbers_of F g.K.Label.stands s.nodes s.lines.now g.K.SheetKind.KIND in
    let few = few_numbers F (length s.lines.now) s.few in
    let all = numbers_length F g.K.Label.stands s.nodes s.lines.now (written_from F (map (line_of g.K.Label.stands) s.lines.now) s.written) g.K.SheetKind.KIND in
    let total = lengths_sum ns n 0 (omega arith) in
    let short = text_short ns in
    fits_by_from_yields_list (λ (i : ℕ). length (stored (get_or ns i 0))) (range_with_len 0 n) c.map.result _
    (YieldsList-from_map _ (λ (i : ℕ). length (stored (get_or ns i 0))) (YieldsList-from_range 0 n n (cc) (omega arith)) c.map.ensures.closure (λ x r q k. search (rules, tests))) (omega arith)

pub returns : goal.returns
returns g c =
    let F = g.K.Label.form in
    let s = c.args.self.now in
    let n = c.number_count.result in
    let ns = numbers_of F g.K.Label.stands s.nodes s.lines.now g.K.SheetKind.KIND in
    let all = numbers_length F g.K.Label.stands s.nodes s.lines.now (written_from F (map (line_of g.K.Label.stands) s.lines.now) s.written) g.K.SheetKind.KIND in
    sum_by_from_yields_List (λ (i : ℕ). length (stored (get_or ns i 0))) (range_with_len 0 n) c.map.result c.sum.result c.sum.ensures.ran
    (YieldsList-from_map _ (λ (i : ℕ). length (stored (get_or ns i 0))) (YieldsList-from_range 0 n n (cc) (omega arith)) c.map.ensures.closure (λ x r q k. search (rules, tests)))
    ∙ lengths_sum ns n 0 (omega arith)

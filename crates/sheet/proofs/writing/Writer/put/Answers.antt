use Rattle.std.proofs.Common.{◌≡◌, ℕ, ◌+◌, ◌<◌, List, ◌++◌, length, map, take, drop, sym, refl, ap, ◌∙◌, arith, rules}
use Rattle.std.proofs.lemmas.List.{take_rest, length-drop}
use Rattle.net.specs.Model.{line_of}
use Rattle.sheet.specs.Stored.{stored, text}
use Rattle.sheet.specs.Writing.{numbers_of}
use Rattle.sheet.proofs.Texts.{text_more, text_length_more, text_whole, text_front, next_within, put_more}
use Rattle.sheet.proofs.Indices.{numbers_length}
use Rattle.sheet.proofs.Records.{written_from}
use Rattle.sheet.proofs.writing.Writer.put.Goals as goal

pub slice_bounds-put-count : goal.slice_bounds-put-count
slice_bounds-put-count g c =
    let s = c.args.self.now in
    let ns = numbers_of g.K.Label.form g.K.Label.stands s.nodes s.lines.now g.K.SheetKind.KIND in
    omega (arith, text_front ns c.loop-at.at)

pub slice_bounds-put-start : goal.slice_bounds-put-start
slice_bounds-put-start g c = let within = slice_bounds-put-count g c in search rules

pub put-end-requires : goal.put-end-requires
put-end-requires g c =
    let F = g.K.Label.form in
    let s = c.args.self.now in
    let ns = numbers_of F g.K.Label.stands s.nodes s.lines.now g.K.SheetKind.KIND in
    let all = numbers_length F g.K.Label.stands s.nodes s.lines.now (written_from F (map (line_of g.K.Label.stands) s.lines.now) s.written) g.K.SheetKind.KIND in
    let next = next_within ns c.loop-at.at (omega arith) in
    let here = ap (λ (n : ℕ). length (stored n)) c.number.ensures in
    let rest = ap length (take_rest c.loop-at.out c.loop-at.end) ∙ length-drop c.loop-at.end c.loop-at.out in
    omega arith

pub overflow_add-end : goal.overflow_add-end
overflow_add-end g c =
    let F = g.K.Label.form in
    let s = c.args.self.now in
    let ns = numbers_of F g.K.Label.stands s.nodes s.lines.now g.K.SheetKind.KIND in
    let all = numbers_length F g.K.Label.stands s.nodes s.lines.now (written_from F (map (line_of g.K.Label.stands) s.lines.now) s.written) g.K.SheetKind.KIND in
    let next = next_within ns c.loop-at.at (omega arith) in
    let here = ap (λ (n : ℕ). length (stored n)) c.number.ensures in
    omega (arith, c.put-end.ensures.long)

pub loop-at-preserved : goal.loop-at-preserved
loop-at-preserved g c =
    let F = g.K.Label.form in
    let s = c.args.self.now in
    let ns = numbers_of F g.K.Label.stands s.nodes s.lines.now g.K.SheetKind.KIND in
    let all = numbers_length F g.K.Label.stands s.nodes s.lines.now (written_from F (map (line_of g.K.Label.stands) s.lines.now) s.written) g.K.SheetKind.KIND in
    let i = c.loop-at.at in
    let end = c.loop-at.end in
    let inside : i < length ns = omega arith in
    let n = c.number.result in
    let more : text (take (i + 1) ns) ≡ text (take i ns) ++ stored n = text_more ns i inside ∙ ap (λ (m : ℕ). text (take i ns) ++ stored m) (sym c.number.ensures) in
    let ends : end + c.put-end.result ≡ end + length (stored n) = ap (λ (k : ℕ). end + k) c.put-end.ensures.long in
    let here = ap (λ (m : ℕ). length (stored m)) c.number.ensures in
    let longer = text_length_more ns i inside in (
      omega arith,
      put_more end (length (stored n)) (text (take i ns)) (stored n) c.args.out.now c.loop-at.out c.put-end.new.out (sym c.loop-at.invariant.0) refl c.loop-at.invariant.1 c.put-end.ensures.bytes
          ∙ ap (λ (t : List ℕ). t ++ drop (end + length (stored n)) c.args.out.now) (sym more)
          ∙ ap (λ (k : ℕ). text (take (i + 1) ns) ++ drop k c.args.out.now) (sym ends),
    )

pub returns : goal.returns
returns g c =
    let F = g.K.Label.form in
    let s = c.args.self.now in
    let ns = numbers_of F g.K.Label.stands s.nodes s.lines.now g.K.SheetKind.KIND in
    let all = numbers_length F g.K.Label.stands s.nodes s.lines.now (written_from F (map (line_of g.K.Label.stands) s.lines.now) s.written) g.K.SheetKind.KIND in
    let whole = text_whole ns c.loop-at.at (omega arith) in
    record {
      long = c.loop-at.invariant.0 ∙ ap length whole;
      bytes = c.loop-at.invariant.1 ∙ ap (λ (t : List ℕ). t ++ drop c.loop-at.end c.args.out.now) whole;
    }

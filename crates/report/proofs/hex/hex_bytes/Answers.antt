use Rattle.std.proofs.Common.{ℕ, List, ◌∷◌, Some, vec_items, sym, ap, ◌∙◌, append-nil}
use Rattle.report.specs.Hex.{hex}
use Rattle.report.proofs.Reading.{after, hex_blank, hex_odd, hex_two, hex_nothing, after_byte}
use Rattle.report.proofs.hex.hex_bytes.Goals as goal

pub loop-high-preserved-then-is_blank : goal.loop-high-preserved-then-is_blank
loop-high-preserved-then-is_blank c =
    c.loop-high.invariant ∙ ap (after _) (ap hex c.in-Some.ensures.cases.0 ∙ hex_blank _ _ (sym c.is_blank.ensures ∙ c.if-is_blank.true))

pub returns-in_default-split_first : goal.returns-in_default-split_first
returns-in_default-split_first c =
    c.loop-high.invariant ∙ ap (after _) (ap hex c.in-Some.ensures.cases.0 ∙ hex_odd _ _ c.in_default-split_first.ensures.cases (sym c.is_blank.ensures ∙ c.if-is_blank.false))

pub returns-in_default-byte : goal.returns-in_default-byte
returns-in_default-byte c =
    let two = ap hex c.in-Some.ensures.cases.0 ∙ ap (λ (t : List ℕ). hex (c.in-Some.high.now ∷ t)) c.in-Some-split_first.ensures.cases.0
    ∙ hex_two _ _ _ (sym c.is_blank.ensures ∙ c.if-is_blank.false) in
    c.loop-high.invariant ∙ ap (after _) (rw (sym c.in_default-byte.ensures) at two)

pub loop-high-preserved : goal.loop-high-preserved
loop-high-preserved c =
    let two = ap hex c.in-Some.ensures.cases.0 ∙ ap (λ (t : List ℕ). hex (c.in-Some.high.now ∷ t)) c.in-Some-split_first.ensures.cases.0
    ∙ hex_two _ _ _ (sym c.is_blank.ensures ∙ c.if-is_blank.false) in
    c.loop-high.invariant ∙ ap (after _) (rw (sym c.in-Some-byte.ensures) at two)
    ∙ after_byte (vec_items c.loop-high.bytes) (vec_items c.push.new.self) c.in-Some-byte.b _ c.in_ok-push.ensures.items

pub returns : goal.returns
returns c = c.loop-high.invariant ∙ ap (after _) (hex_nothing _ c.in_default.ensures.cases) ∙ ap Some (append-nil _)

use Rattle.std.proofs.Common.{◌≡◌, ℕ, ◌+◌, [], ◌∷◌, length, drop, ap, ◌∙◌, subst, arith, length-append}
use Rattle.std.proofs.lemmas.Result.{err_from_is_err_and}
use Rattle.sheet.specs.Stored.{stored, text}
use Rattle.sheet.specs.Codes.{codes}
use Rattle.sheet.specs.Faults.{Unreadable, NoLabel, no_tail, no_head, no_label}
use Rattle.sheet.proofs.Places.{numbers_one, numbers_more}
use Rattle.std.proofs.lemmas.Grind.{flat_map-append}
use Rattle.sheet.proofs.reader.Reader.line.Goals as goal

pub returns-in_err-tail : goal.returns-in_err-tail
returns-in_err-tail g c =
    let p = err_from_is_err_and c.from_residual.result c.from_residual.ensures.1 in
    rw (p.1, p.2) (record { bytes = c.number.ensures.bytes; told = no_tail _ c.in_err-tail.ensures.told })

pub returns-in_err-head : goal.returns-in_err-head
returns-in_err-head g c =
    let bs = c.args.self.now.bytes.now in
    let q = c.number.new.self.place in
    let one = c.in_ok-tail.ensures.told in
    let at = numbers_one bs c.args.self.now.place c.in_ok-tail.tail q c.args.self.now.within one in
    let p = err_from_is_err_and c.from_residual-in_err-head.result c.from_residual-in_err-head.ensures.1 in
    rw (p.1, p.2) (record {
      bytes = c.number-2.ensures.bytes ∙ c.number.ensures.bytes;
      told = no_head c.in_ok-tail.tail (drop q bs) _ one.small at.bytes_are
          (subst (λ (z : ℕ). Unreadable z (length bs) (drop q bs) c.in_err-head.field-0.0) at.next_is (rw c.number.ensures.bytes at c.in_err-head.ensures.told));
    })

pub returns-in_err-label : goal.returns-in_err-label
returns-in_err-label g c =
    let bs = c.args.self.now.bytes.now in
    let t = c.in_ok-tail.tail in
    let h = c.in_ok-head.head in
    let q = c.number.new.self.place in
    let r = c.number-2.new.self.place in
    let one = c.in_ok-tail.ensures.told in
    let two = rw c.number.ensures.bytes at c.in_ok-head.ensures.told in
    let at = numbers_one bs c.args.self.now.place t q c.args.self.now.within one in
    let at2 = numbers_more bs c.args.self.now.place (t ∷ []) q h r at two in
    let p = err_from_is_err_and c.from_residual-in_err-label.result c.from_residual-in_err-label.ensures.1 in
    rw (p.1, p.2) (record {
      bytes = c.label.ensures.bytes ∙ c.number-2.ensures.bytes ∙ c.number.ensures.bytes;
      told = no_label t h (drop r bs) _ one.small two.small at2.bytes_are
          (subst (λ (z : ℕ). NoLabel g.L.Label.form z (length bs) (drop r bs) c.in_err-label.field-0.0) at2.next_is (rw (c.number-2.ensures.bytes, c.number.ensures.bytes) at c.in_err-label.ensures.told));
    })

pub returns : goal.returns
returns g c =
    let bs = c.args.self.now.bytes.now in
    let F = g.L.Label.form in
    let t = c.in_ok-tail.tail in
    let h = c.in_ok-head.head in
    let q = c.number.new.self.place in
    let r = c.number-2.new.self.place in
    let one = c.in_ok-tail.ensures.told in
    let two = rw c.number.ensures.bytes at c.in_ok-head.ensures.told in
    let l = rw (c.number-2.ensures.bytes, c.number.ensures.bytes) at c.in_ok-label.ensures.told in
    let ns = codes F.slots l.label.numbers in
    let at = numbers_one bs c.args.self.now.place t q c.args.self.now.within one in
    let at2 = numbers_more bs c.args.self.now.place (t ∷ []) q h r at two in
    let long : length (text (t ∷ h ∷ ns)) ≡ length (text (t ∷ h ∷ [])) + length (text ns) = ap length (flat_map-append stored (t ∷ h ∷ []) ns) ∙ length-append (text (t ∷ h ∷ [])) (text ns) in
    record {
      bytes = c.label.ensures.bytes ∙ c.number-2.ensures.bytes ∙ c.number.ensures.bytes;
      told = record {
        line = record {
          tail_small = one.small;
          head_small = two.small;
          between = drop r bs;
          ends = at2.bytes_are;
          label = l.label;
        };
        next_is = omega (arith, l.next_is, at2.next_is, long);
        within = l.within;
      };
    }

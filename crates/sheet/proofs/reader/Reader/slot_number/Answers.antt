use Rattle.std.proofs.Common.{◌⊎◌, ◌<ℤ◌, rules, tests}
use Rattle.std.proofs.lemmas.Result.{err_from_is_err_and}
use Rattle.sheet.specs.Reading.{unread, outside}
use Rattle.sheet.proofs.Coded.{none_inside}
use Rattle.sheet.proofs.reader.Reader.slot_number.Goals as goal

pub returns-in_err-number : goal.returns-in_err-number
returns-in_err-number c =
    let p = err_from_is_err_and c.from_residual.result c.from_residual.ensures.1 in
    rw (p.1, p.2) (record { bytes = c.number.ensures.bytes; told = unread _ c.in_err-number.ensures.told })

pub returns-then-not-contains : goal.returns-then-not-contains
returns-then-not-contains c =
    let s = c.args.slot in
    let y = c.decoded-value.result in
    let n = c.in_ok-number.number in
    let out : (y <ℤ s.least) ⊎ (s.most <ℤ y) = search (rules, tests) in
    record {
      bytes = c.number.ensures.bytes;
      told = outside (record {
        value = n;
        next = c.number.new.self.place;
        number = c.in_ok-number.ensures.told;
        none = none_inside s y n c.requires c.decoded-value.ensures.code c.decoded-value.ensures.least out;
      });
    }

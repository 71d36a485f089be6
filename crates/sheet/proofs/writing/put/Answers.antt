use Rattle.std.proofs.Common.{◌+◌, ◌/◌, ◌%◌, [], ◌∷◌, sym, arith, rules}
use Rattle.sheet.proofs.Groups.{stored_one, stored_two, stored_three}
use Rattle.sheet.proofs.Sizes.{one_byte, two_bytes, three_bytes, bytes_between}
use Rattle.sheet.proofs.Fronts.{set_one, set_two, set_three, as_stored}
use Rattle.sheet.proofs.writing.put.Goals as goal

pub bounds-out-0 : goal.bounds-out-0
bounds-out-0 c = omega (arith, (bytes_between c.args.n).0)

pub returns-then-n-lt128 : goal.returns-then-n-lt128
returns-then-n-lt128 c =
    let n = c.args.n in
    let long = one_byte n c.if-n-lt128.true in
    record {
      long = sym long;
      bytes = as_stored n (n ∷ []) c.args.out.now _ (stored_one n c.if-n-lt128.true) (set_one c.args.out.now n (omega arith));
    }

pub bounds-out-0-2 : goal.bounds-out-0-2
bounds-out-0-2 c = omega (arith, (bytes_between c.args.n).0)

pub bounds-out-1 : goal.bounds-out-1
bounds-out-1 c = let long = two_bytes c.args.n c.if-n-lt128.false (omega arith) in search rules

pub returns-then-rest-lt128 : goal.returns-then-rest-lt128
returns-then-rest-lt128 c =
    let n = c.args.n in
    let long = two_bytes n c.if-n-lt128.false (omega arith) in
    record {
      long = sym long;
      bytes = as_stored n ((128 + n % 128) ∷ n / 128 ∷ []) c.args.out.now _ (stored_two n c.if-n-lt128.false (omega arith)) (set_two c.args.out.now (128 + n % 128) (n / 128) (omega arith));
    }

pub bounds-out-1-2 : goal.bounds-out-1-2
bounds-out-1-2 c = let long = three_bytes c.args.n (omega arith) in search rules

pub bounds-out-2 : goal.bounds-out-2
bounds-out-2 c = let long = three_bytes c.args.n (omega arith) in search rules

pub returns : goal.returns
returns c =
    let n = c.args.n in
    let long = three_bytes n (omega arith) in
    record {
      long = sym long;
      bytes = as_stored n ((128 + n % 128) ∷ (128 + n / 128 % 128) ∷ n / 128 / 128 % 128 ∷ []) c.args.out.now _ (stored_three n (omega arith)) (set_three c.args.out.now (128 + n % 128) (128 + n / 128 % 128) (n / 128 / 128 % 128) (omega arith));
    }

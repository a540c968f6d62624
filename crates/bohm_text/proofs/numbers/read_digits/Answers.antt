use Rattle.std.proofs.Common.{arith, ◌+◌, ◌-◌, ◌*◌, ◌≡◌, get_or, true}
use Rattle.std.specs.Char.{is_ascii_digit}
use Rattle.bohm_text.proofs.Digits.{digits_step, digits_other, digits_large, digits_end}
use Rattle.bohm_text.proofs.numbers.read_digits.Goals as goal

pub returns-then-not-is_ascii_digit-clause-value : goal.returns-then-not-is_ascii_digit-clause-value
returns-then-not-is_ascii_digit-clause-value c =
    digits_other _ c.args.limit c.loop-byte.number c.loop-byte.byte-index c.args.digits.now c.loop-byte-test.true c.loop-byte.invariant.so_far cc

pub returns-then-number-limit-clause-value : goal.returns-then-number-limit-clause-value
returns-then-number-limit-clause-value c =
    digits_large _ c.args.limit c.loop-byte.number c.loop-byte.byte-index c.args.digits.now c.loop-byte-test.true c.loop-byte.invariant.so_far
    (omega (arith, c.if-number-limit.true))

pub returns-then-number-limit-2-clause-value : goal.returns-then-number-limit-2-clause-value
returns-then-number-limit-2-clause-value c =
    digits_large _ c.args.limit c.loop-byte.number c.loop-byte.byte-index c.args.digits.now c.loop-byte-test.true c.loop-byte.invariant.so_far
    (omega (arith, c.if-number-limit-2.true))

pub loop-byte-preserved : goal.loop-byte-preserved
loop-byte-preserved c =
    let digit : is_ascii_digit (get_or c.args.digits.now c.loop-byte.byte-index 0) ≡ true = cc in
    let next : c.loop-byte.number * 10 + c.from.result ≡ c.loop-byte.number * 10 + (get_or c.args.digits.now c.loop-byte.byte-index 0 - 48) =
    omega (arith, c.from.ensures) in
    record {
      small = omega (arith, c.if-number-limit-2.false);
      so_far = rw next (digits_step _ c.args.limit c.loop-byte.number c.loop-byte.byte-index c.args.digits.now c.loop-byte-test.true
          c.loop-byte.invariant.so_far digit (omega (arith, c.if-number-limit-2.false, c.from.ensures)));
    }

pub returns-clause-value : goal.returns-clause-value
returns-clause-value c = digits_end _ c.args.limit c.loop-byte.number c.loop-byte.byte-index c.args.digits.now c.loop-byte-test.false
    c.loop-byte.invariant.so_far

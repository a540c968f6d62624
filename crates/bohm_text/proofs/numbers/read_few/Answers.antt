use Rattle.std.proofs.Common.{rules, arith, ◌+◌, ◌-◌, ◌*◌, ◌^◌, ◌≡◌, ◌≤◌, ◌<◌, get_or, true}
use Rattle.std.specs.Char.{is_ascii_digit}
use Rattle.bohm_text.proofs.Digits.{digits_step, digits_other, digits_end, digit_is, few_more, few_fit, few_end}
use Rattle.bohm_text.proofs.numbers.read_few.Goals as goal

pub returns-then-not-is_ascii_digit-clause-value : goal.returns-then-not-is_ascii_digit-clause-value
returns-then-not-is_ascii_digit-clause-value c =
    λ limit low. digits_other _ limit c.loop-byte.number c.loop-byte.byte-index c.args.digits.now c.loop-byte-test.true
    (c.loop-byte.invariant.so_far limit low) cc

pub overflow_mul-number : goal.overflow_mul-number
overflow_mul-number c =
    let fit : c.loop-byte.number * 10 + 0 < 10 ^ 18 =
    few_fit c.loop-byte.number 0 c.loop-byte.byte-index c.loop-byte.invariant.small (omega arith) (omega (arith, c.loop-byte-test.true, c.requires)) in
    search rules

pub overflow_add-number : goal.overflow_add-number
overflow_add-number c =
    let fit : c.loop-byte.number * 10 + c.from.result < 10 ^ 18 =
    few_fit c.loop-byte.number c.from.result c.loop-byte.byte-index c.loop-byte.invariant.small
    (omega (arith, c.from.ensures, (digit_is (get_or c.args.digits.now c.loop-byte.byte-index 0) cc).1)) (omega (arith, c.loop-byte-test.true, c.requires)) in
    search rules

pub loop-byte-preserved : goal.loop-byte-preserved
loop-byte-preserved c =
    let digit : is_ascii_digit (get_or c.args.digits.now c.loop-byte.byte-index 0) ≡ true = cc in
    let next : c.loop-byte.number * 10 + c.from.result ≡ c.loop-byte.number * 10 + (get_or c.args.digits.now c.loop-byte.byte-index 0 - 48) =
    omega (arith, c.from.ensures) in
    let few : c.from.result ≤ 9 = omega (arith, c.from.ensures, (digit_is (get_or c.args.digits.now c.loop-byte.byte-index 0) digit).1) in
    let fit : c.loop-byte.number * 10 + c.from.result < 10 ^ 18 =
    few_fit c.loop-byte.number c.from.result c.loop-byte.byte-index c.loop-byte.invariant.small few (omega (arith, c.loop-byte-test.true, c.requires)) in
    record {
      small = few_more c.loop-byte.number c.from.result c.loop-byte.byte-index c.loop-byte.invariant.small few;
      so_far = λ limit low. rw next (digits_step _ limit c.loop-byte.number c.loop-byte.byte-index c.args.digits.now c.loop-byte-test.true
          (c.loop-byte.invariant.so_far limit low) digit (omega (arith, next, fit, low)));
    }

pub returns-clause-value : goal.returns-clause-value
returns-clause-value c =
    λ limit low. digits_end _ limit c.loop-byte.number c.loop-byte.byte-index c.args.digits.now c.loop-byte-test.false
    (c.loop-byte.invariant.so_far limit low)

pub returns-clause-inside : goal.returns-clause-inside
returns-clause-inside c =
    few_end c.loop-byte.number c.loop-byte.byte-index c.loop-byte.invariant.small (omega (arith, c.requires, c.loop-byte.auto.byte-index-end))

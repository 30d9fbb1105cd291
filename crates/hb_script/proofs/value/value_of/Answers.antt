use Rattle.std.proofs.Common.{◌≡◌, ◌+◌, ◌*◌, ◌^◌, arith}
use Rattle.hb_script.proofs.ValueLemmas.{IsDigitAt, digit_read, digits_more, value_more, too_large, no_value}
use Rattle.hb_script.proofs.value.value_of.Goals as goal

pub returns-then-value-greatest : goal.returns-then-value-greatest
returns-then-value-greatest c =
    let i = c.loop-byte.byte-index in
    let digit = c.in_ok-to_digit.field-0 in
    let at : IsDigitAt c.args.digits.now i digit = digit_read c.args.digits.now i c.from.result digit c.loop-byte-test.true c.from.ensures c.in_ok-to_digit.ensures.value in
    let more = value_more c.args.digits.now i digit c.loop-byte.value at c.loop-byte.invariant.value in
    let limit : c.from-greatest.result + 1 ≡ 2 ^ (8 * c.args.width) = omega (arith, c.greatest.ensures, c.from-greatest.ensures) in
    no_value c.args.digits.now c.args.width (too_large c.args.digits.now c.args.width (i + 1) c.from-greatest.result limit (omega (arith, more, c.from-in-loop-byte.ensures, c.if-value-greatest.true)))

pub loop-byte-preserved : goal.loop-byte-preserved
loop-byte-preserved c =
    let i = c.loop-byte.byte-index in
    let digit = c.in_ok-to_digit.field-0 in
    let at : IsDigitAt c.args.digits.now i digit = digit_read c.args.digits.now i c.from.result digit c.loop-byte-test.true c.from.ensures c.in_ok-to_digit.ensures.value in
    let more = value_more c.args.digits.now i digit c.loop-byte.value at c.loop-byte.invariant.value in
    record {
      digits = digits_more c.args.digits.now i digit at c.loop-byte.invariant.digits;
      value = omega (arith, more, c.from-in-loop-byte.ensures);
      small = c.if-value-greatest.false;
    }

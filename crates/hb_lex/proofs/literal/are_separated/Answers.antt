use Rattle.std.proofs.Common.{sym, ap, ◌∙◌, get_or}
use Rattle.std.specs.Prelude.{◌==◌, ◌||◌, ◌&&◌}
use Rattle.hb_lex.proofs.LiteralLaws.{separated_at, separated_last, separated_all}
use Rattle.hb_lex.proofs.literal.are_separated.Goals as goal

pub returns-then-not-goes_on : goal.returns-then-not-goes_on
returns-then-not-goes_on c =
    separated_last c.args.bits c.args.bytes.now c.loop-byte.byte-index c.loop-byte.after_digit _ c.loop-byte-test.true c.loop-byte.invariant
    (ap (λ d. d || (c.loop-byte.after_digit && (get_or c.args.bytes.now c.loop-byte.byte-index 0 == 95))) (sym c.is_bit_digit-is_digit.ensures) ∙ (sym c.goes_on.ensures ∙ c.if-not-goes_on.true))

pub loop-byte-preserved : goal.loop-byte-preserved
loop-byte-preserved c =
    separated_at c.args.bits c.args.bytes.now c.loop-byte.byte-index c.loop-byte.after_digit c.is_bit_digit-is_digit.result _ c.loop-byte-test.true c.loop-byte.invariant c.is_bit_digit-is_digit.ensures
    (sym c.goes_on.ensures ∙ c.if-not-goes_on.false)

pub returns : goal.returns
returns c = separated_all c.args.bits c.args.bytes.now c.loop-byte.byte-index c.loop-byte.after_digit _ c.loop-byte-test.false c.loop-byte.invariant

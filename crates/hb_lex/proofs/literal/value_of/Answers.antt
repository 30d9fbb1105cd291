use Rattle.std.proofs.Common.{ap, sym, ◌∙◌, ◌^◌, ◌*◌, ◌+◌, drop}
use Rattle.hb_lex.specs.Literals.{digit_count, value_of}
use Rattle.hb_lex.proofs.LiteralLaws.{value_past, value_next, value_last, some_is, some_small}
use Rattle.hb_lex.proofs.literal.value_of.Goals as goal

pub returns-in-None : goal.returns-in-None
returns-in-None c =
    value_past (2 ^ 128) c.args.base c.args.digits.now c.loop-byte.byte-index c.loop-byte.value _ c.requires c.loop-byte-test.true c.loop-byte.invariant.value c.in-None.ensures

pub loop-byte-preserved : goal.loop-byte-preserved
loop-byte-preserved c =
    let is = some_is _ _ _ c.in-Some.ensures in
    record {
      value = value_next c.args.base c.args.digits.now c.loop-byte.byte-index c.loop-byte.value _ c.loop-byte-test.true c.loop-byte.invariant.value
          ∙ ap (λ v. v * c.args.base ^ digit_count (drop (c.loop-byte.byte-index + 1) c.args.digits.now) + value_of c.args.base (drop (c.loop-byte.byte-index + 1) c.args.digits.now)) (sym is.1);
      small = some_small (2 ^ 128) _ _ c.in-Some.ensures;
    }

pub returns : goal.returns
returns c = value_last (2 ^ 128) c.args.base c.args.digits.now c.loop-byte.byte-index c.loop-byte.value _ c.loop-byte-test.false c.loop-byte.invariant.value c.loop-byte.invariant.small

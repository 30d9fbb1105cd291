use Rattle.std.proofs.Common.{ap, sym, ◌∙◌, ◌+◌, ◌≤◌, arith, drop}
use Rattle.hb_lex.specs.Literals.{digit_count}
use Rattle.hb_lex.proofs.LiteralLaws.{count_more, count_all, at_most_one}
use Rattle.hb_lex.proofs.literal.digit_count.Goals as goal

pub returns-clause-count : goal.returns-clause-count
returns-clause-count c = count_all c.args.bytes.now c.loop-byte.byte-index c.loop-byte.count _ c.loop-byte-test.false c.loop-byte.invariant.count

pub loop-byte-preserved : goal.loop-byte-preserved
loop-byte-preserved c =
    let one : c.digits_in-count.result ≤ 1 = at_most_one _ _ c.digits_in-count.ensures in
    record {
      count = count_more c.args.bytes.now c.loop-byte.byte-index c.loop-byte.count _ c.loop-byte-test.true c.loop-byte.invariant.count
          ∙ ap (λ n. (c.loop-byte.count + n) + digit_count (drop (c.loop-byte.byte-index + 1) c.args.bytes.now)) (sym c.digits_in-count.ensures);
      within = omega arith;
    }

use Rattle.std.proofs.Common.{sym, ◌∙◌}
use Rattle.hb_lex.specs.Bytes.{belongs}
use Rattle.hb_lex.proofs.LiteralLaws.{run_more, run_last, run_all}
use Rattle.hb_lex.proofs.bytes.run.Goals as goal

pub returns-then-not-belongs-clause-size : goal.returns-then-not-belongs-clause-size
returns-then-not-belongs-clause-size c =
    run_last (belongs c.args.class) c.args.bytes.now c.loop-i.i c.loop-i-test.true c.loop-i.invariant (sym c.belongs.ensures ∙ c.if-not-belongs.true)

pub loop-i-preserved : goal.loop-i-preserved
loop-i-preserved c =
    run_more (belongs c.args.class) c.args.bytes.now c.loop-i.i c.loop-i-test.true c.loop-i.invariant (sym c.belongs.ensures ∙ c.if-not-belongs.false)

pub returns-clause-size : goal.returns-clause-size
returns-clause-size c = run_all (belongs c.args.class) c.args.bytes.now c.loop-i.i c.loop-i.auto.i-end c.loop-i-test.false c.loop-i.invariant

use Rattle.hb_second.specs.Moves.{run}
use Rattle.hb_second.specs.Items.{statement_items}
use Rattle.hb_tree.specs.ExpressionViews.{stmts}
use Rattle.hb_second.proofs.RunLaws.{statement_ok, statement_err, statement_end}
use Rattle.hb_second.proofs.reading.take_statements.Goals as goal

pub returns-in-Some : goal.returns-in-Some
returns-in-Some c =
    statement_err c.args.names.now c.args.around c.args.statements.now c.loop-statement.statement-index c.statement-item.result _ c.loop-statement.reader c.take_statement.new.reader c.in_ok-wrong.wrong c.in-Some.place c.loop-statement-test.true c.statement-item.is c.loop-statement.invariant c.in_ok-wrong.ensures c.in-Some.is

pub loop-statement-preserved : goal.loop-statement-preserved
loop-statement-preserved c =
    statement_ok c.args.names.now c.args.around c.args.statements.now c.loop-statement.statement-index c.statement-item.result (run c.args.reader.now (statement_items c.args.names.now c.args.around (stmts c.args.statements.now))) c.loop-statement.reader c.take_statement.new.reader c.in_ok-wrong.wrong c.loop-statement-test.true c.statement-item.is c.loop-statement.invariant c.in_ok-wrong.ensures c.in-None.is

pub returns : goal.returns
returns c =
    statement_end c.args.names.now c.args.around c.args.statements.now c.loop-statement.statement-index _ c.loop-statement.reader c.loop-statement-test.false c.loop-statement.invariant

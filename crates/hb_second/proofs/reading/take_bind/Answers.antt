use Rattle.hb_second.proofs.RunLaws.{bind_stops, bind_goes, bind_none}
use Rattle.hb_tree.specs.ExpressionViews.{stmts}
use Rattle.hb_second.proofs.reading.take_bind.Goals as goal

pub returns-then-not-take_equation : goal.returns-then-not-take_equation
returns-then-not-take_equation c =
    bind_stops c.args.names.now c.args.reader.now c.take_equation.new.self c.args.bind.now.place _ (stmts c.in-Some.statements.now) c.take_equation.result c.in-Some.ensures c.take_equation.ensures c.if-not-take_equation.true

pub returns-in_ok-wrong-in-Some : goal.returns-in_ok-wrong-in-Some
returns-in_ok-wrong-in-Some c =
    bind_goes c.args.names.now c.args.reader.now c.take_equation.new.self c.take_statements.new.reader c.args.bind.now.place _ (stmts c.in-Some.statements.now) c.take_equation.result c.in_ok-wrong-in-Some.wrong c.in-Some.ensures c.take_equation.ensures c.if-not-take_equation.false c.in_ok-wrong-in-Some.ensures

pub returns-in-None : goal.returns-in-None
returns-in-None c = bind_none c.args.names.now c.args.reader.now c.args.bind.now.place _ c.in-None.ensures

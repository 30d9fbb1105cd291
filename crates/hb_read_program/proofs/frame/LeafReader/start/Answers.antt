use Rattle.std.proofs.Common.{ap}
use Rattle.hb_read_program.specs.declared.symbol.Leaf.TheVariants as leaf
use Rattle.hb_read_program.specs.Frames.{reads}
use Rattle.hb_read_program.proofs.frame.LeafReader.start.Goals as goal

pub returns-in-Type : goal.returns-in-Type
returns-in-Type c = rw c.in-Type.is (ap (reads leaf.Type) c.of_type.ensures.start)

pub returns-in-Atype : goal.returns-in-Atype
returns-in-Atype c = rw c.in-Atype.is (ap (reads leaf.Atype) c.of_atype.ensures.start)

pub returns-in-Pred : goal.returns-in-Pred
returns-in-Pred c = rw c.in-Pred.is (ap (reads leaf.Pred) c.new.ensures.start)

pub returns-in_ok-reader-in-Qualified : goal.returns-in_ok-reader-in-Qualified
returns-in_ok-reader-in-Qualified c = rw c.in-Qualified.is (ap (reads leaf.Qualified) c.in_ok-reader-in-Qualified.ensures.start)

pub returns-in-Expr : goal.returns-in-Expr
returns-in-Expr c = rw c.in-Expr.is (ap (reads leaf.Expr) c.expr.ensures.start)

pub returns-in-Equation : goal.returns-in-Equation
returns-in-Equation c = rw c.in-Equation.is (ap (reads leaf.Equation) c.equation.ensures.start)

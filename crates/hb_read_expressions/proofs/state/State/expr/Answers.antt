use Rattle.hb_read_expressions.proofs.Exactness.{expr_reader_is_exact}
use Rattle.hb_read_expressions.proofs.state.State.expr.Goals as goal

pub returns-clause-exact : goal.returns-clause-exact
returns-clause-exact c = expr_reader_is_exact

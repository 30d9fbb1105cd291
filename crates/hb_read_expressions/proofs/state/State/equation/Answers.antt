use Rattle.hb_read_expressions.proofs.Exactness.{equation_reader_is_exact}
use Rattle.hb_read_expressions.proofs.state.State.equation.Goals as goal

pub returns-clause-exact : goal.returns-clause-exact
returns-clause-exact c = equation_reader_is_exact

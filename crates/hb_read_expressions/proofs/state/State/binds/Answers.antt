use Rattle.hb_read_expressions.proofs.Exactness.{binds_reader_is_exact}
use Rattle.hb_read_expressions.proofs.state.State.binds.Goals as goal

pub returns-clause-exact : goal.returns-clause-exact
returns-clause-exact c = binds_reader_is_exact

pub returns-in_err-push-clause-exact : goal.returns-in_err-push-clause-exact
returns-in_err-push-clause-exact c = binds_reader_is_exact

use Rattle.hb_read_types.proofs.QualifiedExact.{qualified_exact}
use Rattle.hb_read_types.proofs.qualified_reader.QualifiedReader.new.Goals as goal

pub returns-in_err-push-clause-exact : goal.returns-in_err-push-clause-exact
returns-in_err-push-clause-exact c = qualified_exact

pub returns-clause-exact : goal.returns-clause-exact
returns-clause-exact c = qualified_exact

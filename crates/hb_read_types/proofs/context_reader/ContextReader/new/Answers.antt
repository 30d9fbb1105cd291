use Rattle.hb_read_types.proofs.ContextExact.{context_exact}
use Rattle.hb_read_types.proofs.context_reader.ContextReader.new.Goals as goal

pub returns-clause-exact : goal.returns-clause-exact
returns-clause-exact c = context_exact

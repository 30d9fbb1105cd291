use Rattle.hb_read_patterns.proofs.Exacting.{pat_reader_is_exact}
use Rattle.hb_read_patterns.proofs.reader.PatReader.pat.Goals as goal

pub returns-clause-exact : goal.returns-clause-exact
returns-clause-exact c = pat_reader_is_exact

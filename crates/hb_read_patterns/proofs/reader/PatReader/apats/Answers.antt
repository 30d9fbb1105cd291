use Rattle.hb_read_patterns.proofs.Exacting.{apats_reader_is_exact}
use Rattle.hb_read_patterns.proofs.reader.PatReader.apats.Goals as goal

pub returns-clause-exact : goal.returns-clause-exact
returns-clause-exact c = apats_reader_is_exact

use Rattle.hb_read_patterns.proofs.Exacting.{apat_reader_is_exact}
use Rattle.hb_read_patterns.proofs.reader.PatReader.apat.Goals as goal

pub returns-clause-exact : goal.returns-clause-exact
returns-clause-exact c = apat_reader_is_exact

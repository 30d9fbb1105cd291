use Rattle.hb_read_types.proofs.BehindLaws.{atype_exact_behind}
use Rattle.hb_read_types.proofs.TypeExact.{atype_exact}
use Rattle.hb_read_types.proofs.type_reader.TypeReader.of_atype.Goals as goal

pub returns-clause-exact : goal.returns-clause-exact
returns-clause-exact c = atype_exact

pub returns-clause-behind : goal.returns-clause-behind
returns-clause-behind c = atype_exact_behind

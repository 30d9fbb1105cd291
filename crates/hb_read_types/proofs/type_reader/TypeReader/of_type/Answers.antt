use Rattle.hb_read_types.proofs.BehindLaws.{type_exact_behind}
use Rattle.hb_read_types.proofs.TypeExact.{type_exact}
use Rattle.hb_read_types.proofs.type_reader.TypeReader.of_type.Goals as goal

pub returns-clause-exact : goal.returns-clause-exact
returns-clause-exact c = type_exact

pub returns-clause-behind : goal.returns-clause-behind
returns-clause-behind c = type_exact_behind

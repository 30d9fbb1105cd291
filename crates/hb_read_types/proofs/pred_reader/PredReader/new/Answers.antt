use Rattle.hb_read_types.proofs.BehindLaws.{pred_exact_behind}
use Rattle.hb_read_types.proofs.PredExact.{pred_exact}
use Rattle.hb_read_types.proofs.pred_reader.PredReader.new.Goals as goal

pub returns-clause-exact : goal.returns-clause-exact
returns-clause-exact c = pred_exact

pub returns-clause-behind : goal.returns-clause-behind
returns-clause-behind c = pred_exact_behind

use Rattle.hb_second.proofs.ArgumentLaws.{many_operators}
use Rattle.hb_second.proofs.reader.operator_in.Goals as goal

pub returns-in_default-2 : goal.returns-in_default-2
returns-in_default-2 c = many_operators c.args.names.now c.args.operators.now c.in_default.len_at_least

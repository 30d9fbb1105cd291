use Rattle.hb_second.proofs.ArgumentLaws.{few_operands, many_operands}
use Rattle.hb_second.proofs.reader.operation_at.Goals as goal

pub returns-in_default : goal.returns-in_default
returns-in_default c = few_operands c.args.variables.now c.args.names.now c.args.operands.now c.args.operator c.in_default.len_below

pub returns-in_default-2 : goal.returns-in_default-2
returns-in_default-2 c = many_operands c.args.variables.now c.args.names.now c.args.operands.now c.args.operator c.in_default.len_at_least

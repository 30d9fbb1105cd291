use Rattle.hb_nat.proofs.Powers.{too_large}
use Rattle.hb_nat.proofs.arith.power.Goals as goal

pub returns-else-n-lt64 : goal.returns-else-n-lt64
returns-else-n-lt64 c = too_large c.args.n c.if-n-lt64.false

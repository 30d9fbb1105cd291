use Rattle.std.proofs.Common.{◌∙◌}
use Rattle.hb_nat.proofs.Powers.{no_exponent, one_shifted}
use Rattle.hb_nat.proofs.arith.exponent.Goals as goal

pub returns-else-n-m-clause-none : goal.returns-else-n-m-clause-none
returns-else-n-m-clause-none c = λ k e.
    no_exponent c.args.m c.ilog2-n.result k c.ilog2-n.ensures.power_le c.ilog2-n.ensures.next_power_gt
    (λ same. c.if-n-m.false (one_shifted c.ilog2-n.result c.args.m c.ilog2-n.ensures.power_le c.ranges.m.fits ∙ same))
    e

use Rattle.std.proofs.Common.{◌<◌, arith}
use Rattle.hb_nat.proofs.Products.{zero_first, zero_second, given_first, given_second}
use Rattle.hb_nat.proofs.improver.improve_factor.Goals as goal

pub returns-then-factor-eq0-clause-right : goal.returns-then-factor-eq0-clause-right
returns-then-factor-eq0-clause-right c = zero_first c.args.factor c.args.variable c.args.product c.decided.result c.if-factor-eq0.true c.decided.ensures

pub returns-then-factor-eq0-clause-left : goal.returns-then-factor-eq0-clause-left
returns-then-factor-eq0-clause-left c = zero_second c.args.factor c.args.variable c.args.product c.decided.result c.if-factor-eq0.true c.decided.ensures

pub returns-else-factor-eq0-clause-right : goal.returns-else-factor-eq0-clause-right
returns-else-factor-eq0-clause-right c =
    let above : 0 < c.args.factor = omega arith in
    given_first c.args.factor c.args.variable c.args.product c.quotient.result c.given.result above c.ranges.product.fits c.quotient.ensures.some c.quotient.ensures.none c.given.ensures

pub returns-else-factor-eq0-clause-left : goal.returns-else-factor-eq0-clause-left
returns-else-factor-eq0-clause-left c =
    let above : 0 < c.args.factor = omega arith in
    given_second c.args.factor c.args.variable c.args.product c.quotient.result c.given.result above c.ranges.product.fits c.quotient.ensures.some c.quotient.ensures.none c.given.ensures

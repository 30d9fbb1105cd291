use Rattle.hb_unknowns.proofs.OrderLemmas.{number-next}
use Rattle.hb_unknowns.proofs.order.all_below.Goals as goal

pub loop-number-preserved : goal.loop-number-preserved
loop-number-preserved c = number-next c.loop-number.number c.loop-number.all.items c.push.new.self.items c.in_ok-push.ensures.items c.loop-number.invariant.0 c.loop-number.invariant.1

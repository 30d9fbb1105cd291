use Rattle.std.proofs.Common.{ℕ, ◌<◌}
use Rattle.hb_unknowns.specs.Order.{AllBelow, Member}
use Rattle.hb_unknowns.proofs.order.all_below.Given as goal

abbrev pub invariant-loop-number : goal.invariant-loop-number
invariant-loop-number l = AllBelow l.number l.all.items × ((k : ℕ) → k < l.number → Member k l.all.items)

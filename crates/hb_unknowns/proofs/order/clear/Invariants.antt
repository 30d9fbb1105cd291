use Rattle.std.proofs.Common.{take}
use Rattle.hb_unknowns.specs.Order.{AreCleared}
use Rattle.hb_unknowns.proofs.order.clear.Given as goal

abbrev pub invariant-loop-place : goal.invariant-loop-place
invariant-loop-place l = AreCleared l.initial.marks.items (take l.place-index l.places) l.marks.items

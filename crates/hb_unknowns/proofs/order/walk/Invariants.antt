use Rattle.std.proofs.Common.{reverse}
use Rattle.hb_unknowns.specs.Order.{Walked, Touched, steps_left}
use Rattle.hb_unknowns.proofs.order.walk.Given as goal

abbrev pub invariant-loop-top : goal.invariant-loop-top
invariant-loop-top l = Walked l.entries l.marks.items (reverse l.stack.items) (reverse l.finished.items) × Touched l.initial.marks.items l.marks.items

abbrev pub decreases-loop-top : goal.decreases-loop-top
decreases-loop-top l = steps_left l.marks.items l.stack.items

use Rattle.std.proofs.Common.{◌≡◌, ℕ, [], take, reverse}
use Rattle.hb_unknowns.specs.declared.order.Mark.TheVariants.{New}
use Rattle.hb_unknowns.specs.Order.{Walked, Member, marked}
use Rattle.hb_unknowns.proofs.order.walk_all.Given as goal

abbrev pub invariant-loop-start : goal.invariant-loop-start
invariant-loop-start l = Walked l.entries l.marks.items [] (reverse l.finished.items) × (l.stack.items ≡ []) × ((k : ℕ) → Member k (take l.start-index l.starts) → marked l.marks.items k ≡ New → ⊥)

use Rattle.hb_layout.specs.Stacks.{is_implicit, leading}
use Rattle.hb_layout.proofs.StackLaws.{Closing}
use Rattle.hb_layout.proofs.stack.Stack.close_implicit.Given as goal

abbrev pub invariant-loop-self : goal.invariant-loop-self
invariant-loop-self l = Closing is_implicit l.fn.self l.self l.count

abbrev pub decreases-loop-self : goal.decreases-loop-self
decreases-loop-self l = leading is_implicit l.self

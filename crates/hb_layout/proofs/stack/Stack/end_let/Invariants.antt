use Rattle.std.proofs.Common.{length}
use Rattle.hb_layout.proofs.StackLaws.{Taking}
use Rattle.hb_layout.proofs.stack.Stack.end_let.Given as goal

abbrev pub invariant-loop-self : goal.invariant-loop-self
invariant-loop-self l = Taking l.fn.self l.self l.count

abbrev pub decreases-loop-self : goal.decreases-loop-self
decreases-loop-self l = length l.self

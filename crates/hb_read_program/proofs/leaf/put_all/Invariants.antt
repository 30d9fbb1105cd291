use Rattle.std.proofs.Common.{◌≡◌, ◌++◌, drop}
use Rattle.hb_read_program.proofs.leaf.put_all.Given as goal

abbrev pub invariant-loop-node : goal.invariant-loop-node
invariant-loop-node l = l.nodes ++ drop l.node-index l.later ≡ l.initial.nodes ++ l.later

use Rattle.std.proofs.Common.{take}
use Rattle.hb_unknowns.proofs.FullLemmas.{AreFoundIn}
use Rattle.hb_unknowns.proofs.full.find_all.Given as goal

abbrev pub invariant-loop-node : goal.invariant-loop-node
invariant-loop-node l = AreFoundIn l.entries l.types l.found.items (take l.node-index l.order)

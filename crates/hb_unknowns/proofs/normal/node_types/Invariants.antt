use Rattle.hb_unknowns.specs.Full.{AreFound}
use Rattle.hb_unknowns.specs.Normal.{AreNodeTypes}
use Rattle.hb_unknowns.proofs.normal.node_types.Given as goal

abbrev pub invariant-loop-node : goal.invariant-loop-node
invariant-loop-node l = AreNodeTypes l.entries l.node l.table l.places.items

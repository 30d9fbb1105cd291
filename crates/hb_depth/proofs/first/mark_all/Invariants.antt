use Rattle.std.proofs.Common.{◌≡◌, [], length}
use Rattle.hb_depth.specs.Marking.{marked}
use Rattle.hb_depth.specs.Shapes.{shapes}
use Rattle.hb_depth.proofs.first.mark_all.Given as goal

-- the nodes that are left lead on to the marks of all of them
abbrev pub invariant-loop-node : goal.invariant-loop-node
invariant-loop-node l = marked l.marker.chains l.marker.marks (shapes l.left []) ≡ marked [] [] (shapes l.nodes [])

abbrev pub decreases-loop-node : goal.decreases-loop-node
decreases-loop-node l = length l.left

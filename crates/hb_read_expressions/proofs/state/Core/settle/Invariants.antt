use Rattle.std.proofs.Common.{◌≡◌, length}
use Rattle.hb_read_expressions.specs.Ends.{settle}
use Rattle.hb_read_expressions.proofs.state.Core.settle.Given as goal

abbrev pub invariant-loop-frame : goal.invariant-loop-frame
invariant-loop-frame l =
    settle l.self.frames l.end.first l.end.stands l.self.nodes ≡ settle l.initial.self.frames l.initial.end.first l.initial.end.stands l.initial.self.nodes

abbrev pub decreases-loop-frame : goal.decreases-loop-frame
decreases-loop-frame l = length l.self.frames

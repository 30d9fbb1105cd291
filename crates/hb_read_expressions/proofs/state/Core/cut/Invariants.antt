use Rattle.std.proofs.Common.{◌≡◌, length}
use Rattle.hb_read_expressions.specs.Statements.{cut}
use Rattle.hb_read_expressions.proofs.state.Core.cut.Given as goal

abbrev pub invariant-loop-frame : goal.invariant-loop-frame
invariant-loop-frame l = cut l.self.frames l.self.nodes ≡ cut l.initial.self.frames l.initial.self.nodes

abbrev pub decreases-loop-frame : goal.decreases-loop-frame
decreases-loop-frame l = length l.self.frames

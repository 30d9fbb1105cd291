use Rattle.std.proofs.Common.{◌≡◌, length}
use Rattle.hb_engine.specs.Tables.{moved}
use Rattle.hb_read_program.specs.Frames.{rules}
use Rattle.hb_read_program.specs.Running.{seen}
use Rattle.hb_read_program.proofs.run.Run.take.Given as goal

abbrev pub invariant-loop-frame : goal.invariant-loop-frame
invariant-loop-frame l = moved rules (seen l.self.frames) l.self.nodes l.token ≡ moved rules (seen l.initial.self.frames) l.initial.self.nodes l.token

abbrev pub decreases-loop-frame : goal.decreases-loop-frame
decreases-loop-frame l = length (seen l.self.frames)

use Rattle.std.proofs.Common.{◌≡◌, ◌++◌, length}
use Rattle.hb_read_program.specs.Frames.{frames_of}
use Rattle.hb_read_program.specs.Running.{seen}
use Rattle.hb_read_program.proofs.run.push_items.Given as goal

abbrev pub invariant-loop-item : goal.invariant-loop-item
invariant-loop-item l = frames_of l.left l.place l.count l.token ++ seen l.frames ≡ frames_of l.items l.place l.count l.token ++ seen l.initial.frames

abbrev pub decreases-loop-item : goal.decreases-loop-item
decreases-loop-item l = length l.left

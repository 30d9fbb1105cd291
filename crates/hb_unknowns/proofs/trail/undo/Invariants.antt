use Rattle.std.proofs.Common.{◌≡◌, length}
use Rattle.hb_unknowns.specs.Trail.{restored, AreInside}
use Rattle.hb_unknowns.proofs.trail.undo.Given as goal

abbrev pub invariant-loop-change : goal.invariant-loop-change
invariant-loop-change l = AreInside (length l.entries.items) l.trail.items × (restored l.trail.items l.entries.items ≡ restored l.initial.trail.items l.initial.entries.items)

abbrev pub decreases-loop-change : goal.decreases-loop-change
decreases-loop-change l = length l.trail.items

use Rattle.std.proofs.Common.{◌≡◌, reverse, length}
use Rattle.hb_read_expressions.specs.Asking.{settled}
use Rattle.hb_read_expressions.proofs.asking.settled.Given as goal

abbrev pub invariant-loop-top : goal.invariant-loop-top
invariant-loop-top l = settled (reverse l.left) ≡ settled (reverse l.frames)

abbrev pub decreases-loop-top : goal.decreases-loop-top
decreases-loop-top l = length l.left

use Rattle.std.proofs.Common.{◌≡◌, reverse, length}
use Rattle.hb_read_expressions.specs.Asking.{in_statement}
use Rattle.hb_read_expressions.proofs.asking.in_statement.Given as goal

abbrev pub invariant-loop-top : goal.invariant-loop-top
invariant-loop-top l = in_statement (reverse l.left) ≡ in_statement (reverse l.frames)

abbrev pub decreases-loop-top : goal.decreases-loop-top
decreases-loop-top l = length l.left

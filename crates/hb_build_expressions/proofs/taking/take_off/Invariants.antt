use Rattle.std.proofs.Common.{◌≡◌, []}
use Rattle.hb_build_expressions.specs.Taking.{off}
use Rattle.hb_build_expressions.proofs.taking.take_off.Given as goal

-- what is left to take leads on to what there was to take
abbrev pub invariant-loop-left : goal.invariant-loop-left
invariant-loop-left g l = off l.left l.stack l.taken ≡ off l.count l.initial.stack []

abbrev pub decreases-loop-left : goal.decreases-loop-left
decreases-loop-left g l = l.left

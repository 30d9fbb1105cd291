use Rattle.std.proofs.Common.{◌≡◌, length}
use Rattle.hb_read_program.specs.Rules.{found}
use Rattle.hb_read_program.proofs.heads.first.Given as goal

abbrev pub invariant-loop-head : goal.invariant-loop-head
invariant-loop-head l = found l.left l.token ≡ found l.heads l.token

abbrev pub decreases-loop-head : goal.decreases-loop-head
decreases-loop-head l = length l.left

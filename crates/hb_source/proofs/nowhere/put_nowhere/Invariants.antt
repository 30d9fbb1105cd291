use Rattle.std.proofs.Common.{◌≡◌, ◌++◌, length}
use Rattle.hb_source.specs.Nowhere.{all_nowhere}
use Rattle.hb_source.proofs.nowhere.put_nowhere.Given as goal

abbrev pub invariant-loop-token : goal.invariant-loop-token
invariant-loop-token l = l.out ++ all_nowhere l.left ≡ l.initial.out ++ all_nowhere l.tokens

abbrev pub decreases-loop-token : goal.decreases-loop-token
decreases-loop-token l = length l.left

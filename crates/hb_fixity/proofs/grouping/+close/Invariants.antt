use Rattle.std.proofs.Common.{length}
use Rattle.hb_fixity.proofs.grouping.+close.Given as goal

abbrev pub decreases-close : goal.decreases-close
decreases-close l = length l.pending.now

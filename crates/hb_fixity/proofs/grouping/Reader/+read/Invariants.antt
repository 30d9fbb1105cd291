use Rattle.std.proofs.Common.{length}
use Rattle.hb_fixity.proofs.grouping.Reader.+read.Given as goal

abbrev pub decreases-read : goal.decreases-read
decreases-read l = length l.rest

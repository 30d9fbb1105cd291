use Rattle.std.proofs.Common.{length}
use Rattle.hb_bitdata.proofs.tests.+are_as_wide.Given as goal

abbrev pub decreases-are_as_wide : goal.decreases-are_as_wide
decreases-are_as_wide l = length l.fields.now

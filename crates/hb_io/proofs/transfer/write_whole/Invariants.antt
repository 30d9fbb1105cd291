use Rattle.std.proofs.Common.{length}
use Rattle.hb_io.proofs.transfer.write_whole.Given as goal

-- how many bytes are still to be written
abbrev pub decreases-loop-rest : goal.decreases-loop-rest
decreases-loop-rest g l = length l.rest

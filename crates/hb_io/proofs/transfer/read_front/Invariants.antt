use Rattle.std.proofs.Common.{◌-◌, vec_len}
use Rattle.hb_io.proofs.transfer.read_front.Given as goal

-- how many bytes are still wanted
abbrev pub decreases-loop-chunk : goal.decreases-loop-chunk
decreases-loop-chunk g l = l.cap - vec_len l.bytes

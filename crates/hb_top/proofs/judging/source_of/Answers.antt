use Rattle.std.proofs.Common.{arith}
use Rattle.hb_top.proofs.SourceLaws.{long_judged}
use Rattle.hb_top.proofs.judging.source_of.Goals as goal

pub returns-then-bytes : goal.returns-then-bytes
returns-then-bytes c = rw c.failed.ensures (long_judged c.args.bytes.now c.refused.result (omega (arith, c.if-bytes.true)) (c.refused.ensures.whole (omega arith)))

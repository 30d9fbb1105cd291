use Rattle.std.proofs.Common.{◌≡◌, length}
use Rattle.hb_bitdata.specs.Widths.{first_width}
use Rattle.hb_bitdata.proofs.widths.first_width.Given as goal

abbrev pub invariant-loop-con : goal.invariant-loop-con
invariant-loop-con l = first_width l.left ≡ first_width l.cons

abbrev pub decreases-loop-con : goal.decreases-loop-con
decreases-loop-con l = length l.left

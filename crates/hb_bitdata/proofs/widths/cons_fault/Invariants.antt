use Rattle.std.proofs.Common.{◌≡◌, length}
use Rattle.hb_bitdata.specs.Widths.{cons_fault}
use Rattle.hb_bitdata.proofs.widths.cons_fault.Given as goal

abbrev pub invariant-loop-con : goal.invariant-loop-con
invariant-loop-con l = cons_fault l.expected l.left ≡ cons_fault l.expected l.cons

abbrev pub decreases-loop-con : goal.decreases-loop-con
decreases-loop-con l = length l.left

use Rattle.std.proofs.Common.{◌≡◌, length}
use Rattle.hb_bitdata.specs.Widths.{bad_field}
use Rattle.hb_bitdata.proofs.widths.bad_field.Given as goal

abbrev pub invariant-loop-part : goal.invariant-loop-part
invariant-loop-part l = bad_field l.left ≡ bad_field l.parts

abbrev pub decreases-loop-part : goal.decreases-loop-part
decreases-loop-part l = length l.left

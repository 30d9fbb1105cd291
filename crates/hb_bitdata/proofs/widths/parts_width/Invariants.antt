use Rattle.std.proofs.Common.{◌≡◌, ◌+◌, ◌≤◌, min, length}
use Rattle.hb_bitdata.specs.Widths.{parts_width}
use Rattle.hb_bitdata.proofs.widths.parts_width.Given as goal

-- the width so far with the width that is left
abbrev pub invariant-loop-part : goal.invariant-loop-part
invariant-loop-part l = (l.width ≤ 65) × (min (l.width + parts_width l.left) 65 ≡ min (parts_width l.parts) 65)

abbrev pub decreases-loop-part : goal.decreases-loop-part
decreases-loop-part l = length l.left

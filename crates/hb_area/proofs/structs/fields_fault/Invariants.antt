use Rattle.std.proofs.Common.{◌≡◌, Some, length}
use Rattle.hb_area.specs.Structs.{fields_fault}
use Rattle.hb_area.proofs.structs.fields_fault.Given as goal

abbrev pub invariant-loop-part : goal.invariant-loop-part
invariant-loop-part l = fields_fault l.structs l.at l.left ≡ fields_fault l.structs (Some 0) l.parts

abbrev pub decreases-loop-part : goal.decreases-loop-part
decreases-loop-part l = length l.left

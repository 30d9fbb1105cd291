use Rattle.std.proofs.Common.{◌≡◌, ◌++◌, Some, length}
use Rattle.hb_area.specs.Structs.{spots_from}
use Rattle.hb_area.proofs.structs.field_spots.Given as goal

abbrev pub invariant-loop-part : goal.invariant-loop-part
invariant-loop-part l = l.fields ++ spots_from l.form.name l.structs l.at l.left ≡ spots_from l.form.name l.structs (Some 0) l.form.parts

abbrev pub decreases-loop-part : goal.decreases-loop-part
decreases-loop-part l = length l.left

use Rattle.std.proofs.Common.{◌≡◌, ◌<◌, length}
use Rattle.hb_area.specs.Structs.{greatest_align}
use Rattle.hb_area.proofs.structs.parts_align.Given as goal

abbrev pub invariant-loop-part : goal.invariant-loop-part
invariant-loop-part l = record {
  positive : 0 < l.align;
  align : greatest_align l.structs l.align l.left ≡ greatest_align l.structs 1 l.parts;
}

abbrev pub decreases-loop-part : goal.decreases-loop-part
decreases-loop-part l = length l.left

use Rattle.std.proofs.Common.{◌≡◌, ◌+◌, ◌++◌, length}
use Rattle.hb_bits.specs.OfCube.{members_of}
use Rattle.hb_bitdata.specs.Widths.{parts_width}
use Rattle.hb_bitdata.specs.Layouts.{parts_members, places}
use Rattle.hb_bitdata.proofs.laying.lay_con.Given as goal

-- what is laid out so far, with what is left, is the whole
abbrev pub invariant-loop-part : goal.invariant-loop-part
invariant-loop-part l = record {
  below : l.below ≡ parts_width l.left;
  width : l.cube.width + parts_width l.left ≡ parts_width l.con.parts;
  members : members_of l.cube ++ parts_members l.left ≡ parts_members l.con.parts;
  fields : l.fields ++ places l.left ≡ places l.con.parts;
}

abbrev pub decreases-loop-part : goal.decreases-loop-part
decreases-loop-part l = length l.left

use Rattle.std.proofs.Common.{◌≡◌, true, ◌++◌, length, map}
use Rattle.std.specs.List.{list_all}
use Rattle.hb_bitdata.specs.Cubes.{has_width}
use Rattle.hb_bitdata.specs.Layouts.{laid, shown, AreWide}
use Rattle.hb_bitdata.proofs.laying.lay_cons.Given as goal

abbrev pub invariant-loop-con : goal.invariant-loop-con
invariant-loop-con l = record {
  wide : AreWide l.width l.left;
  cons : map shown l.layouts ++ map laid l.left ≡ map laid l.cons;
  width : list_all (has_width l.width) l.layouts ≡ true;
}

abbrev pub decreases-loop-con : goal.decreases-loop-con
decreases-loop-con l = length l.left

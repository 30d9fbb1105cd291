use Rattle.std.proofs.Common.{ℕ, Bool, List, length}
use Rattle.hb_bitdata.specs.Junk.{IsOutOfAll, HaveWidth}
use Rattle.hb_bitdata.proofs.junk.has_whole.Given as goal

abbrev pub invariant-loop-cube : goal.invariant-loop-cube
invariant-loop-cube l = record {
  wide : (width : ℕ) → HaveWidth width l.cubes → HaveWidth width l.left;
  out : (bits : List Bool) → IsOutOfAll l.cubes bits → IsOutOfAll l.left bits;
}

abbrev pub decreases-loop-cube : goal.decreases-loop-cube
decreases-loop-cube l = length l.left

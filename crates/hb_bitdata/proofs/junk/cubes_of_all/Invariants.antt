use Rattle.std.proofs.Common.{◌≡◌, ◌++◌, length}
use Rattle.hb_bitdata.specs.Junk.{cubes_of}
use Rattle.hb_bitdata.proofs.junk.cubes_of_all.Given as goal

abbrev pub invariant-loop-con : goal.invariant-loop-con
invariant-loop-con l = l.cubes.items ++ cubes_of l.left ≡ cubes_of l.cons

abbrev pub decreases-loop-con : goal.decreases-loop-con
decreases-loop-con l = length l.left

use Rattle.std.proofs.Common.{◌+◌, ◌∷◌, ◌↔◌, Bool, List, length}
use Rattle.hb_bitdata.specs.Junk.{IsOutOfAll, HaveWidth}
use Rattle.hb_bitdata.proofs.junk.after_all.Given as goal

abbrev pub invariant-loop-cube : goal.invariant-loop-cube
invariant-loop-cube l = record {
  wide : HaveWidth (l.width + 1) l.left;
  kept : HaveWidth l.width l.kept.items;
  out : (bits : List Bool) → (IsOutOfAll l.cubes (l.bit ∷ bits) ↔ (IsOutOfAll l.kept.items bits × IsOutOfAll l.left (l.bit ∷ bits)));
}

abbrev pub decreases-loop-cube : goal.decreases-loop-cube
decreases-loop-cube l = length l.left

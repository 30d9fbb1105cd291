use Rattle.std.proofs.Common.{◌∷◌, not, Bool, List, length}
use Rattle.hb_bitdata.specs.Junk.{IsOutOfAll, HaveBits}
use Rattle.hb_bitdata.proofs.junk.is_first_free.Given as goal

abbrev pub invariant-loop-cube : goal.invariant-loop-cube
invariant-loop-cube l = record {
  wide : HaveBits l.left;
  so_far : (bit : Bool) (bits : List Bool) → (IsOutOfAll l.left (bit ∷ bits) → IsOutOfAll l.left (not bit ∷ bits)) → IsOutOfAll l.cubes (bit ∷ bits) → IsOutOfAll l.cubes (not bit ∷ bits);
}

abbrev pub decreases-loop-cube : goal.decreases-loop-cube
decreases-loop-cube l = length l.left

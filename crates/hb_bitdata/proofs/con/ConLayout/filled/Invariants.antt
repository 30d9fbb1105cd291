use Rattle.std.proofs.Common.{◌≡◌, true, length, map}
use Rattle.hb_bits.specs.OfPattern.{bits_of}
use Rattle.hb_bitdata.specs.Places.{are_below}
use Rattle.hb_bitdata.specs.Fields.{placed, tags}
use Rattle.hb_bitdata.proofs.con.ConLayout.filled.Given as goal

abbrev pub invariant-loop-field : goal.invariant-loop-field
invariant-loop-field l = record {
  width : l.built.width ≡ l.self.cube.width;
  below : are_below l.self.cube.width l.places ≡ true;
  widths : map (λ part. part.width) l.left ≡ map (λ field. field.width) l.places;
  bits : placed l.places l.left (bits_of l.built) ≡ placed l.self.fields l.parts (tags l.self);
}

abbrev pub decreases-loop-field : goal.decreases-loop-field
decreases-loop-field l = length l.places

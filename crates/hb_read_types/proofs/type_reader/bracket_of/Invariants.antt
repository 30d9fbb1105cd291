use Rattle.std.proofs.Common.{◌≡◌, reverse, length}
use Rattle.hb_read_types.specs.TypeMoves.{bracket_of}
use Rattle.hb_read_types.proofs.type_reader.bracket_of.Given as goal

abbrev pub invariant-loop-top : goal.invariant-loop-top
invariant-loop-top l = bracket_of (reverse l.left) ≡ bracket_of (reverse l.frames)

abbrev pub decreases-loop-top : goal.decreases-loop-top
decreases-loop-top l = length l.left

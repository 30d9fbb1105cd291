use Rattle.std.proofs.Common.{◌≡◌, length}
use Rattle.hb_read_types.specs.TypeMoves.{open_frames, ended_nodes}
use Rattle.hb_read_types.proofs.type_reader.end_arrows.Given as goal

abbrev pub invariant-loop-place : goal.invariant-loop-place
invariant-loop-place l = (open_frames l.frames ≡ open_frames l.initial.frames) × (ended_nodes l.frames l.nodes ≡ ended_nodes l.initial.frames l.initial.nodes)

abbrev pub decreases-loop-place : goal.decreases-loop-place
decreases-loop-place l = length l.frames

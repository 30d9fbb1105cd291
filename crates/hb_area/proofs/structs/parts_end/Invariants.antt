use Rattle.std.proofs.Common.{◌≡◌, ◌≤◌, ◌^◌, Some, length}
use Rattle.std.specs.Prelude.{IfSome}
use Rattle.hb_area.specs.Structs.{end_from}
use Rattle.hb_area.proofs.structs.parts_end.Given as goal

abbrev pub invariant-loop-part : goal.invariant-loop-part
invariant-loop-part l = record {
  capped : IfSome l.at (λ at. at ≤ 2 ^ 32);
  end : end_from l.structs l.at l.left ≡ end_from l.structs (Some 0) l.parts;
}

abbrev pub decreases-loop-part : goal.decreases-loop-part
decreases-loop-part l = length l.left

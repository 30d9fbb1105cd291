use Rattle.std.proofs.Common.{◌≡◌, ◌+◌, ◌<◌, ◌≤◌, ◌^◌, ◌++◌, length}
use Rattle.hb_area.specs.Placing.{addresses_from, over_from}
use Rattle.hb_area.specs.declared.placing.TheConstants.{AREAS_START, AREAS_END}
use Rattle.hb_area.proofs.placing.place_areas.Given as goal

abbrev pub invariant-loop-area : goal.invariant-loop-area
invariant-loop-area l = record {
  low : l.at ≤ AREAS_END;
  few : l.number + length l.left < 2 ^ 32;
  addresses : l.addresses ++ addresses_from l.at l.left ≡ addresses_from AREAS_START l.areas;
  over : over_from l.number l.at l.left ≡ over_from 0 AREAS_START l.areas;
}

abbrev pub decreases-loop-area : goal.decreases-loop-area
decreases-loop-area l = length l.left

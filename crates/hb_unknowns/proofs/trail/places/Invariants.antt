use Rattle.std.proofs.Common.{◌≡◌, take}
use Rattle.hb_unknowns.specs.Trail.{written_places}
use Rattle.hb_unknowns.proofs.trail.places.Given as goal

abbrev pub invariant-loop-change : goal.invariant-loop-change
invariant-loop-change l = l.places.items ≡ written_places (take l.change-index l.trail)

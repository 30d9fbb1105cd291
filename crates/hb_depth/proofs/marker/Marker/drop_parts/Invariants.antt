use Rattle.std.proofs.Common.{◌≡◌}
use Rattle.hb_depth.specs.Marking.{dropped}
use Rattle.hb_depth.proofs.marker.Marker.drop_parts.Given as goal

-- what is left to take off leads on to what there was to take off
abbrev pub invariant-loop-left : goal.invariant-loop-left
invariant-loop-left l = (dropped l.left l.self.chains ≡ dropped l.parts l.initial.self.chains) × (l.self.marks ≡ l.initial.self.marks)

abbrev pub decreases-loop-left : goal.decreases-loop-left
decreases-loop-left l = l.left

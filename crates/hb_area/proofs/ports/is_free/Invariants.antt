use Rattle.std.proofs.Common.{◌≡◌, length}
use Rattle.hb_area.specs.Ports.{is_free}
use Rattle.hb_area.proofs.ports.is_free.Given as goal

abbrev pub invariant-loop-port : goal.invariant-loop-port
invariant-loop-port l = is_free l.left l.width l.address ≡ is_free l.earlier l.width l.address

abbrev pub decreases-loop-port : goal.decreases-loop-port
decreases-loop-port l = length l.left

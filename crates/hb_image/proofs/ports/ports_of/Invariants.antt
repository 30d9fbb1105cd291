use Rattle.std.proofs.Common.{◌≡◌, ◌-◌, []}
use Rattle.hb_image.specs.Reading.{ports_at}
use Rattle.hb_image.proofs.ports.ports_of.Given as goal

abbrev pub invariant-loop : goal.invariant-loop
invariant-loop l = ports_at (l.count - l.counter) l.ports.items l.rest ≡ ports_at l.count [] l.bytes

use Rattle.hb_kind.specs.Places.{AreFine}
use Rattle.hb_kind.proofs.wholes.Walk.bit_parts.Given as goal

-- the equations stay fine
abbrev pub invariant-loop-part : goal.invariant-loop-part
invariant-loop-part l = AreFine l.self.equations

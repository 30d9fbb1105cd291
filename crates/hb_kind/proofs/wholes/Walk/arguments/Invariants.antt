use Rattle.hb_kind.specs.Places.{AreFine}
use Rattle.hb_kind.proofs.wholes.Walk.arguments.Given as goal

-- the equations stay fine
abbrev pub invariant-loop-t : goal.invariant-loop-t
invariant-loop-t l = AreFine l.self.equations

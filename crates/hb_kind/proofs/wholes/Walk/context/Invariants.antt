use Rattle.hb_kind.specs.Places.{AreFine}
use Rattle.hb_kind.proofs.wholes.Walk.context.Given as goal

-- the equations stay fine
abbrev pub invariant-loop-p : goal.invariant-loop-p
invariant-loop-p l = AreFine l.self.equations

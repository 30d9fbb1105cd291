use Rattle.hb_kind.specs.Places.{AreFine}
use Rattle.hb_kind.proofs.wholes.Walk.methods.Given as goal

-- the equations stay fine
abbrev pub invariant-loop-sig : goal.invariant-loop-sig
invariant-loop-sig l = AreFine l.self.equations

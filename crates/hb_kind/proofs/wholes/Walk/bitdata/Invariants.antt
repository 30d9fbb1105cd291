use Rattle.hb_kind.specs.Places.{AreFine}
use Rattle.hb_kind.proofs.wholes.Walk.bitdata.Given as goal

-- the equations stay fine
abbrev pub invariant-loop-con : goal.invariant-loop-con
invariant-loop-con l = AreFine l.self.equations

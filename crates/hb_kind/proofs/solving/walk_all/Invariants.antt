use Rattle.hb_kind.specs.Places.{AreFine}
use Rattle.hb_kind.proofs.solving.walk_all.Given as goal

-- the equations stay fine
abbrev pub invariant-loop-decl : goal.invariant-loop-decl
invariant-loop-decl l = AreFine l.walk.equations

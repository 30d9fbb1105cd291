use Rattle.hb_kind.specs.Places.{AreFine}
use Rattle.hb_kind.proofs.declared.Declared.built_in.Given as goal

-- the equations stay fine
abbrev pub invariant-loop-entry : goal.invariant-loop-entry
invariant-loop-entry l = AreFine l.equations

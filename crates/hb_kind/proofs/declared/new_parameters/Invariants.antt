use Rattle.hb_kind.specs.Places.{AreFine}
use Rattle.hb_kind.proofs.declared.new_parameters.Given as goal

-- the equations stay fine
abbrev pub invariant-loop-number : goal.invariant-loop-number
invariant-loop-number l = AreFine l.equations

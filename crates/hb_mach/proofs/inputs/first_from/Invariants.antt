use Rattle.hb_mach.specs.Waiting.{NoneBetween}
use Rattle.hb_mach.proofs.inputs.first_from.Given as goal

abbrev pub invariant-loop-place : goal.invariant-loop-place
invariant-loop-place l = NoneBetween l.port l.lines l.from l.place

use Rattle.std.specs.Prelude.{◌<◌}
use Rattle.hb_unknowns.specs.Equations.{type_count}
use Rattle.hb_kind.specs.Places.{AreFine}
use Rattle.hb_kind.proofs.declared.constructor_kind.Given as goal

-- the equations stay fine, and the kind is one of them
abbrev pub invariant-loop-place : goal.invariant-loop-place
invariant-loop-place l = AreFine l.equations × (l.kind < type_count l.equations.unknowns)

use Rattle.std.proofs.Common.{◌<◌, ◌≤◌}
use Rattle.hb_unknowns.specs.Equations.{type_count}
use Rattle.hb_unknowns.proofs.tests.deep_types_are_equated.Given as goal

abbrev pub invariant-loop-level : goal.invariant-loop-level
invariant-loop-level g l = (l.left < type_count l.all) × (l.right < type_count l.all) × (l.con < type_count l.all) × (2 ≤ type_count l.all)

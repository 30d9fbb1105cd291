use Rattle.std.proofs.Common.{◌<◌, ◌≤◌}
use Rattle.hb_unknowns.specs.Equations.{type_count}
use Rattle.type_equations.proofs.tower_from_below.Given as goal

abbrev pub invariant-loop-number : goal.invariant-loop-number
invariant-loop-number l = (100001 < type_count l.all) × (l.taken ≤ l.number) × (l.con < type_count l.all)

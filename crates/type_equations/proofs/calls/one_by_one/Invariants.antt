use Rattle.std.proofs.Common.{◌<◌, ◌≤◌}
use Rattle.hb_unknowns.specs.Equations.{type_count}
use Rattle.type_equations.proofs.calls.one_by_one.Given as goal

abbrev pub invariant-loop-number : goal.invariant-loop-number
invariant-loop-number l = (l.argument < type_count l.all) × (l.taken ≤ l._number)

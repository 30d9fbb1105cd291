use Rattle.std.proofs.Common.{◌≤◌}
use Rattle.hb_unknowns.specs.Equations.{type_count}
use Rattle.hb_unknowns.proofs.tests.forty_nested_pairs_take_forty_nodes.Given as goal

abbrev pub invariant-loop-number : goal.invariant-loop-number
invariant-loop-number g l = 41 ≤ type_count l.all

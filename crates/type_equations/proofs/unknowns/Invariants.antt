use Rattle.std.proofs.Common.{◌≡◌}
use Rattle.hb_unknowns.specs.Equations.{type_count}
use Rattle.type_equations.proofs.unknowns.Given as goal

abbrev pub invariant-loop-number : goal.invariant-loop-number
invariant-loop-number l = type_count l.all ≡ l._number

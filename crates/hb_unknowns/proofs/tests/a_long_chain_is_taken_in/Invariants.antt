use Rattle.std.proofs.Common.{◌≡◌}
use Rattle.hb_unknowns.specs.Equations.{type_count}
use Rattle.hb_unknowns.proofs.tests.a_long_chain_is_taken_in.Given as goal

abbrev pub invariant-loop-number : goal.invariant-loop-number
invariant-loop-number g l = type_count l.all ≡ 100001

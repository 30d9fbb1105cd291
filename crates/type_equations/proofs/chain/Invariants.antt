use Rattle.std.proofs.Common.{◌≡◌, ◌≤◌}
use Rattle.hb_unknowns.specs.Equations.{type_count}
use Rattle.type_equations.proofs.chain.Given as goal

abbrev pub invariant-loop-number : goal.invariant-loop-number
invariant-loop-number l = (type_count l.all ≡ 100001) × (l.taken ≤ l.number)

use Rattle.std.specs.Prelude.{◌≡◌}
use Rattle.hb_unknowns.specs.Equations.{type_count}
use Rattle.hb_kind.proofs.solving.solvable.Given as goal

-- there are as many kinds as before
abbrev pub invariant-loop-turn : goal.invariant-loop-turn
invariant-loop-turn l = type_count l.unknowns ≡ type_count l.initial.unknowns

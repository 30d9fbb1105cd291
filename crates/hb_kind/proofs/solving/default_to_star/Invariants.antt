use Rattle.std.specs.Prelude.{◌≡◌, ◌<◌}
use Rattle.hb_unknowns.specs.Equations.{type_count}
use Rattle.hb_kind.proofs.solving.default_to_star.Given as goal

-- there are as many kinds as before
abbrev pub invariant-loop-place : goal.invariant-loop-place
invariant-loop-place l = type_count l.unknowns ≡ type_count l.initial.unknowns

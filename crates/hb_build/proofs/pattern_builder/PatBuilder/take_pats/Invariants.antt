use Rattle.std.proofs.Common.{◌≡◌, []}
use Rattle.hb_build.specs.PatternSteps.{pats_off}
use Rattle.hb_build.proofs.pattern_builder.PatBuilder.take_pats.Given as goal

-- what is left to take leads on to what there was to take
abbrev pub invariant-loop-left : goal.invariant-loop-left
invariant-loop-left l = pats_off l.left l.self.parts l.taken ≡ pats_off l.count l.initial.self.parts []

abbrev pub decreases-loop-left : goal.decreases-loop-left
decreases-loop-left l = l.left

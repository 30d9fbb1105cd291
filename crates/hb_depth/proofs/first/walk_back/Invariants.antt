use Rattle.std.proofs.Common.{◌≡◌, [], ◌∷◌, None, length}
use Rattle.hb_depth.specs.Walking.{level, walked}
use Rattle.hb_depth.specs.declared.shape.Around.TheVariants.{Other}
use Rattle.hb_depth.proofs.first.walk_back.Given as goal

-- the marks that are left lead on to what all of them lead to
abbrev pub invariant-loop-mark : goal.invariant-loop-mark
invariant-loop-mark l = walked l.walk.levels l.walk.best l.marks ≡ walked (level 1 0 Other ∷ []) None l.initial.marks

abbrev pub decreases-loop-mark : goal.decreases-loop-mark
decreases-loop-mark l = length l.marks

use Rattle.std.proofs.Common.{sym}
use Rattle.hb_kind.proofs.solving.solvable.Goals as goal

pub equate_all-requires : goal.equate_all-requires
equate_all-requires c = record { known = c.between.ensures _ (rw (sym c.loop-turn.invariant) at c.requires.within) }

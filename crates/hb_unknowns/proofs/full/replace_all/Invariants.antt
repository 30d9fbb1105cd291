use Rattle.hb_unknowns.specs.Equations.{equations}
use Rattle.hb_unknowns.specs.Full.{AreFound, AreFullBelow}
use Rattle.hb_unknowns.proofs.full.replace_all.Given as goal

abbrev pub invariant-loop-place : goal.invariant-loop-place
invariant-loop-place l = AreFound l.entries l.table l.found.items × AreFullBelow (equations l.types l.entries) l.place l.table l.places.items

use Rattle.indexmap.specs.IndexMap.{get}
use Rattle.hb_types.specs.Normal.{AreFirstBelow}
use Rattle.hb_types.proofs.NormalLemmas.{AreKept, same_form}
use Rattle.hb_types.proofs.table.Types.normal.Given as goal

abbrev pub invariant-loop-place : goal.invariant-loop-place
invariant-loop-place l = AreFirstBelow l.place l.self l.all.items × AreKept l.self l.place (get same_form l.known) l.all.items

use Rattle.hb_types.specs.Tables.{Extends}
use Rattle.hb_types.specs.Put.{types_at, ArePutBelow}
use Rattle.hb_types.proofs.table.Types.put.Given as goal

abbrev pub invariant-loop-place : goal.invariant-loop-place
invariant-loop-place l = Extends l.initial.self l.self × ArePutBelow l.place (types_at l.initial.self l.args) l.of l.self l.places.items

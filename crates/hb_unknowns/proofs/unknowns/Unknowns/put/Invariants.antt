use Rattle.hb_types.specs.Put.{types_at, ArePutBelow}
use Rattle.hb_unknowns.specs.Equations.{IsGrown}
use Rattle.hb_unknowns.proofs.unknowns.Unknowns.put.Given as goal

abbrev pub invariant-loop-place : goal.invariant-loop-place
invariant-loop-place l = IsGrown l.initial.self l.self × ArePutBelow l.place (types_at l.initial.self.types l.args) l.of l.self.types l.places.items

use Rattle.hb_unknowns.specs.Graph.{Met, work}
use Rattle.hb_unknowns.specs.Trail.{IsTracked}
use Rattle.hb_unknowns.proofs.graph.unify.Given as goal

abbrev pub invariant-loop-pair : goal.invariant-loop-pair
invariant-loop-pair l = Met l.initial.entries.items l.initial.pending.items l.entries.items l.pending.items × IsTracked l.initial.entries.items l.initial.trail.items l.entries.items l.trail.items

abbrev pub decreases-loop-pair : goal.decreases-loop-pair
decreases-loop-pair l = work l.entries.items l.pending.items

use Rattle.hb_unknowns.specs.Graph.{AreWithin}
use Rattle.hb_unique.proofs.equations.pairs_inside.Given as goal

-- the equations so far speak of types that are there
abbrev pub invariant-loop-pair : goal.invariant-loop-pair
invariant-loop-pair l = AreWithin l.count l.inside.items

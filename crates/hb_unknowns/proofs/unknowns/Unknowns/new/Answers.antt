use Rattle.hb_unknowns.proofs.EquationLemmas.{sound-none, clear-none}
use Rattle.hb_unknowns.proofs.ReferredLemmas.{referred-none}
use Rattle.hb_unknowns.proofs.unknowns.Unknowns.new.Goals as goal

pub invariant_of-result : goal.invariant_of-result
invariant_of-result c = (sound-none _ _ c.new.ensures c.new-2.ensures.items, clear-none _ _ c.new-2.ensures.items c.new-3.ensures.items, referred-none _ _ c.new-2.ensures.items c.new-4.ensures.items)

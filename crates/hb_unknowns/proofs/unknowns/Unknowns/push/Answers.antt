use Rattle.hb_unknowns.proofs.EquationLemmas.{sound-put, put-of, clear-push}
use Rattle.hb_unknowns.proofs.ReferredLemmas.{referred-put}
use Rattle.hb_unknowns.proofs.unknowns.Unknowns.push.Goals as goal

pub invariant_of-self-in-Ok-push-2 : goal.invariant_of-self-in-Ok-push-2
invariant_of-self-in-Ok-push-2 c = (
  sound-put c.self.inside.types c.push-4.new.self c.self.inside.entries.items c.push.new.self.items c.args.form c.node_of.result 63 c.self.invariant.0 c.node_of.ensures
      c.in-Ok-push-2.ensures.ok c.in_ok-push.ensures.items (rw (← c.self.view_is) at c.requires.parts) (rw (← c.self.view_is) at c.requires.own),
  rw (c.in_ok-push.ensures.items, c.in-Ok.ensures.items) (clear-push c.self.inside.entries.items c.self.inside.marks.items _ c.self.invariant.1),
  rw c.in_ok-push.ensures.items
      (referred-put c.self.inside.entries.items _ c.self.inside.referred.items c.refer.new.referred.items c.self.invariant.0.graph c.self.invariant.2 (rw c.in-Ok-push.ensures.items at c.refer.ensures.raised)
      c.refer.ensures.parts),
)

pub returns-in-Ok-push-2-clause-ok : goal.returns-in-Ok-push-2-clause-ok
returns-in-Ok-push-2-clause-ok c =
    put-of c.args.self.now c.self.inside.types c.push-4.new.self c.self.inside.entries.items c.push.new.self.items c.args.form c.node_of.result 63 c.in-Ok-push-2.place c.self.view_is
    c.self.invariant.0 c.node_of.ensures c.in-Ok-push-2.ensures.ok c.in_ok-push.ensures.items c.in-Ok-push-2.ensures.place (rw (← c.self.view_is) at c.requires.parts) (rw (← c.self.view_is) at c.requires.own)

use Rattle.hb_unknowns.proofs.NormalLemmas.{normal-of}
use Rattle.hb_unknowns.proofs.unknowns.Unknowns.normal.Goals as goal

pub returns : goal.returns
returns c = record {
  normal = rw c.of.ensures
      (normal-of c.args.self.now c.self.inside.types c.self.inside.entries.items c.node_types.new.table c.in_ok-places.places.items c.self.view_is c.self.invariant.0
      (rw c.deref.ensures.value at c.in_ok-places.ensures));
}

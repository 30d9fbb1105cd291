use Rattle.hb_unknowns.specs.Equations.{equations}
use Rattle.hb_unknowns.proofs.FullLemmas.{found-longer, full-next}
use Rattle.hb_unknowns.proofs.full.replace_all.Goals as goal

pub loop-place-preserved : goal.loop-place-preserved
loop-place-preserved c = (
  found-longer c.args.entries.now c.loop-place.table c.replace.new.table c.in_ok-found.found.items c.in_ok-full.ensures.more c.loop-place.invariant.0,
  full-next (equations c.args.types.now c.args.entries.now) c.loop-place.place c.loop-place.table c.replace.new.table c.loop-place.places.items c.push.new.self.items c.in_ok-full.full
      c.in_ok-full.ensures.more c.loop-place.invariant.1 c.in_ok-push.ensures.items c.in_ok-full.ensures.full,
)

use Rattle.std.proofs.Common.{◌≡◌, length, arith}
use Rattle.hb_unknowns.proofs.ReferredLemmas.{raised-more, refer-next, refer-end}
use Rattle.hb_unknowns.proofs.referred.refer_all.Goals as goal

pub loop-place-preserved : goal.loop-place-preserved
loop-place-preserved c = (
  raised-more c.args.referred.now.items c.loop-place.referred.items c.refer.new.referred.items c.loop-place.invariant.0 c.refer.ensures.raised,
  refer-next c.args.entries.now c.loop-place.referred.items c.refer.new.referred.items c.args.places.now c.loop-place.place-index (omega arith) c.refer.ensures.raised
      (rw c.node_at.ensures at c.refer.ensures.parts) c.loop-place.invariant.1,
)

pub returns-clause-parts : goal.returns-clause-parts
returns-clause-parts c =
    let all : c.loop-place.place-index ≡ length c.args.places.now = omega arith in
    refer-end c.args.entries.now c.loop-place.referred.items c.args.places.now (rw all at c.loop-place.invariant.1)

use Rattle.std.proofs.Common.{◌≡◌, ◌<◌, length, get_or, arith}
use Rattle.hb_unknowns.proofs.OrderLemmas.{clear-one, clear-end, below-at}
use Rattle.hb_unknowns.proofs.order.clear.Goals as goal

pub index_mut-requires : goal.index_mut-requires
index_mut-requires c =
    let less : get_or c.args.places.now c.loop-place.place-index 0 < length c.args.marks.now.items =
    below-at (length c.args.marks.now.items) c.args.places.now c.loop-place.place-index 0 c.requires (omega arith) in
    omega (arith, less, c.loop-place.invariant.size)

pub loop-place-preserved : goal.loop-place-preserved
loop-place-preserved c = clear-one c.args.marks.now.items c.loop-place.marks.items c.args.places.now c.loop-place.place-index c.requires (omega arith) c.loop-place.invariant

pub returns : goal.returns
returns c =
    let all : c.loop-place.place-index ≡ length c.args.places.now = omega arith in
    clear-end c.args.marks.now.items c.loop-place.marks.items c.args.places.now (rw all at c.loop-place.invariant)

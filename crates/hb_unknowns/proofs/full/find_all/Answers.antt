use Rattle.std.proofs.Common.{◌≡◌, ◌<◌, length, get_or, arith}
use Rattle.hb_unknowns.proofs.OrderLemmas.{below-at, below-reverse}
use Rattle.hb_unknowns.proofs.FullLemmas.{found-next, found-all, parts-before}
use Rattle.hb_unknowns.proofs.full.find_all.Goals as goal

pub find-requires-clause-parts : goal.find-requires-clause-parts
find-requires-clause-parts c =
    let value = c.deref.ensures.value in
    rw value (λ p i. c.loop-node.invariant.each p (parts-before c.args.entries.now c.args.order.now c.loop-node.node-index p c.requires.order.sorted (omega arith) i))

pub find-requires-clause-inside : goal.find-requires-clause-inside
find-requires-clause-inside c =
    let less : get_or c.args.order.now c.loop-node.node-index 0 < length c.args.entries.now =
    below-at (length c.args.entries.now) c.args.order.now c.loop-node.node-index 0 (below-reverse (length c.args.entries.now) c.args.order.now c.requires.order.within) (omega arith) in
    less

pub index_mut-requires : goal.index_mut-requires
index_mut-requires c =
    let less : get_or c.args.order.now c.loop-node.node-index 0 < length c.args.entries.now =
    below-at (length c.args.entries.now) c.args.order.now c.loop-node.node-index 0 (below-reverse (length c.args.entries.now) c.args.order.now c.requires.order.within) (omega arith) in
    omega (arith, less, c.loop-node.invariant.size)

pub loop-node-preserved : goal.loop-node-preserved
loop-node-preserved c =
    found-next c.args.entries.now c.loop-node.types c.find.new.types c.loop-node.found.items c.args.order.now c.loop-node.node-index c.in_ok-one.one
    (below-reverse (length c.args.entries.now) c.args.order.now c.requires.order.within) (omega arith) c.in_ok-one.ensures.more c.in_ok-one.ensures.found c.loop-node.invariant

pub returns : goal.returns
returns c =
    let all : c.loop-node.node-index ≡ length c.args.order.now = omega arith in
    found-all c.args.entries.now c.loop-node.types c.loop-node.found.items c.args.order.now c.requires.order (rw all at c.loop-node.invariant)

use Rattle.std.proofs.Common.{arith}
use Rattle.hb_unknowns.specs.declared.full.Found.{Found}
use Rattle.hb_unknowns.specs.Full.{IsFound, found_at}
use Rattle.hb_unknowns.proofs.NormalLemmas.{node-type-of, node-types-next}
use Rattle.hb_unknowns.proofs.normal.node_types.Goals as goal

pub loop-node-preserved : goal.loop-node-preserved
loop-node-preserved c =
    let found : IsFound c.args.entries.now c.find_all.new.types c.loop-node.node (found_at c.in_ok-found.found.items c.loop-node.node) =
    c.in_ok-found.ensures.each c.loop-node.node (omega arith) in
    let one : IsFound c.args.entries.now c.find_all.new.types c.loop-node.node c.found_at-one.result = rw (c.found_at-one.ensures, c.deref-in-loop-node.ensures.value) found in
    node-types-next c.args.entries.now c.loop-node.node c.find_all.new.types c.loop-node.places.items c.push.new.self.items c.found_at-one.result.place c.loop-node.invariant c.in_ok-push.ensures.items
    (node-type-of c.args.entries.now c.find_all.new.types c.loop-node.node c.found_at-one.result one)

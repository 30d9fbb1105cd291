use Rattle.std.proofs.Common.{length, arith}
use Rattle.hb_unknowns.proofs.TrailLemmas.{last-inside, undone}
use Rattle.hb_unknowns.proofs.trail.undo.Goals as goal

pub index_mut-requires : goal.index_mut-requires
index_mut-requires c =
    let inside = (last-inside (length c.loop-change.entries.items) _ _ c.in-Some.change c.loop-change.invariant.0 c.in-Some.ensures.items).1 in
    omega (arith, inside)

pub loop-change-preserved : goal.loop-change-preserved
loop-change-preserved c =
    undone c.loop-change.entries.items _ _ _ c.in-Some.change c.in-Some.ensures.items c.loop-change.invariant.0 c.loop-change.invariant.1

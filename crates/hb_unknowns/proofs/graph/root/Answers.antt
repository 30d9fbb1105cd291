use Rattle.std.proofs.Common.{sym}
use Rattle.hb_unknowns.proofs.GraphLemmas.{link-less}
use Rattle.hb_unknowns.proofs.graph.root.Goals as goal

pub loop-next-smaller : goal.loop-next-smaller
loop-next-smaller c = link-less c.args.entries.now c.loop-next.place c.in-Link.next c.node_at.result c.requires.graph (sym c.node_at.ensures) c.in-Link.is

use Rattle.std.proofs.Common.{◌≡◌, length, true, rules, arith}
use Rattle.hb_unknowns.proofs.OrderLemmas.{starts-more, below-at}
use Rattle.hb_unknowns.proofs.order.walk_all.Goals as goal

pub loop-start-preserved : goal.loop-start-preserved
loop-start-preserved c =
    let yes : c.in_ok-walk_from.field-0 ≡ true = first_of (cc, search rules, grind arith) in
    let end = rw yes at c.in_ok-walk_from.ensures.end in (
      rw end.0 at c.in_ok-walk_from.ensures.walked,
      end.0,
      starts-more c.walk_from.new.marks.items c.args.starts.now c.loop-start.start-index (omega arith)
          (λ k m new. c.loop-start.invariant.2 k m (c.in_ok-walk_from.ensures.touched k new)) end.1,
    )

pub walk_from-requires-clause-start : goal.walk_from-requires-clause-start
walk_from-requires-clause-start c = below-at (length c.args.entries.now) c.args.starts.now c.loop-start.start-index 0 c.requires.starts (omega arith)

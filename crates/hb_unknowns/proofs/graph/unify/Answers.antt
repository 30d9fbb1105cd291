use Rattle.std.proofs.Common.{◌≡◌, true, false, rules, arith}
use Rattle.hb_unknowns.proofs.GraphLemmas.{met-turn, met-clash, last-within}
use Rattle.hb_unknowns.proofs.TrailLemmas.{tracked-more}
use Rattle.hb_unknowns.proofs.graph.unify.Goals as goal

pub turn-requires-clause-left : goal.turn-requires-clause-left
turn-requires-clause-left c = (last-within _ _ _ c.in-Some.pair c.loop-pair.invariant.0.within c.in-Some.ensures.items).0

pub turn-requires-clause-right : goal.turn-requires-clause-right
turn-requires-clause-right c = (last-within _ _ _ c.in-Some.pair c.loop-pair.invariant.0.within c.in-Some.ensures.items).1

pub turn-requires-clause-pending : goal.turn-requires-clause-pending
turn-requires-clause-pending c = (last-within _ _ _ c.in-Some.pair c.loop-pair.invariant.0.within c.in-Some.ensures.items).2

pub returns-then-not-branch-clause-unified : goal.returns-then-not-branch-clause-unified
returns-then-not-branch-clause-unified c =
    let no : c.in_ok-turn.field-0 ≡ false = first_of (cc, search rules, grind arith) in
    met-clash _ _ _ _ _ c.in-Some.pair c.loop-pair.invariant.0 c.in-Some.ensures.items (rw no at c.in_ok-turn.ensures.turned)

pub loop-pair-preserved : goal.loop-pair-preserved
loop-pair-preserved c =
    let yes : c.in_ok-turn.field-0 ≡ true = first_of (cc, search rules, grind arith) in (
      met-turn _ _ _ _ _ _ _ c.in-Some.pair c.loop-pair.invariant.0 c.in-Some.ensures.items (rw yes at c.in_ok-turn.ensures.turned),
      tracked-more _ _ _ _ _ _ c.loop-pair.invariant.1 c.in_ok-turn.ensures.tracked,
    )

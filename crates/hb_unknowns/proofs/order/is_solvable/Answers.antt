use Rattle.std.proofs.Common.{length}
use Rattle.hb_unknowns.proofs.OrderLemmas.{walked-start, below-reverse, cleared}
use Rattle.hb_unknowns.proofs.order.is_solvable.Goals as goal

pub walk_all-answer-requires-clause-walked : goal.walk_all-answer-requires-clause-walked
walk_all-answer-requires-clause-walked c = rw c.new-finished.ensures.items (walked-start c.args.entries.now c.args.marks.now.items c.requires.clear)

pub clear-requires : goal.clear-requires
clear-requires c =
    let walked = c.walk_all-answer.ensures.walked in
    rw (c.deref.ensures.value, walked.size) (below-reverse (length c.args.entries.now) c.walk_all-answer.new.stack.items walked.inside)

pub clear-requires-2 : goal.clear-requires-2
clear-requires-2 c =
    let walked = c.walk_all-answer.ensures.walked in
    rw (c.deref-2.ensures.value, c.clear.ensures.size, walked.size) (below-reverse (length c.args.entries.now) c.walk_all-answer.new.finished.items walked.over)

pub returns-clause-clear : goal.returns-clause-clear
returns-clause-clear c =
    cleared c.args.entries.now c.walk_all-answer.new.marks.items c.clear.new.marks.items c.clear-2.new.marks.items c.walk_all-answer.new.stack.items c.walk_all-answer.new.finished.items
    c.walk_all-answer.ensures.walked (rw c.deref.ensures.value at c.clear.ensures) (rw c.deref-2.ensures.value at c.clear-2.ensures)

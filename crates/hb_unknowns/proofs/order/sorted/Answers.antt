use Rattle.std.proofs.Common.{◌≡◌, length, rules, arith}
use Rattle.hb_unknowns.proofs.OrderLemmas.{walked-start, clear-all, order-of}
use Rattle.hb_unknowns.proofs.order.sorted.Goals as goal

pub walk_all-requires-clause-walked : goal.walk_all-requires-clause-walked
walk_all-requires-clause-walked c =
    let items = c.in_ok-marks.ensures.items_if_clones_equal (λ y h. first_of (search rules, cc, grind arith)) in
    let long : length c.in_ok-marks.marks.items ≡ length c.args.entries.now = first_of (search rules, grind arith, omega arith) in
    rw c.new-finished.ensures.items (walked-start c.args.entries.now c.in_ok-marks.marks.items (clear-all c.args.entries.now c.in_ok-marks.marks.items items long))

pub returns : goal.returns
returns c =
    order-of c.args.entries.now c.walk_all.new.marks.items c.walk_all.new.finished.items c.in_ok-starts.starts.items c.in_ok-_whole._whole c.requires.solution
    (rw c.deref.ensures.value at c.in_ok-_whole.ensures.end) c.in_ok-starts.ensures.whole

use Rattle.std.proofs.Common.{sym, subst}
use Rattle.hb_top.specs.World.{world, shelved, printed}
use Rattle.habit.specs.Answering.{AnswersFor}
use Rattle.habit.proofs.answer.Goals as goal

pub returns-in-Ok : goal.returns-in-Ok
returns-in-Ok g c =
    let shelf = g.F.Shelf in let sink = g.O.Sink in
    let old = world (shelved (shelf.files c.args.shelf.now) (shelf.read_faults c.args.shelf.now) (shelf.write_faults c.args.shelf.now)) (printed (sink.taken c.args.out.now) (sink.faults c.args.out.now)) in
    let new = world (shelved (shelf.files c.habit.new.shelf) (shelf.read_faults c.habit.new.shelf) (shelf.write_faults c.habit.new.shelf)) (printed (sink.taken c.habit.new.out) (sink.faults c.habit.new.out)) in
    subst (λ words. AnswersFor words c.habit.result old new) (sym c.in-Ok.is) c.habit.ensures.answers

use Rattle.hb_top.specs.World.{world, shelved, printed}
use Rattle.hb_top.proofs.Composition.{after_run, failed}
use Rattle.hb_top.proofs.Headline.{told_of}
use Rattle.hb_top.proofs.command.habit.Goals as goal

pub returns-in-Ok-clause-answers : goal.returns-in-Ok-clause-answers
returns-in-Ok-clause-answers g c =
    let shelf = g.F.Shelf in let sink = g.O.Sink in
    let old = world (shelved (shelf.files c.args.shelf.now) (shelf.read_faults c.args.shelf.now) (shelf.write_faults c.args.shelf.now)) (printed (sink.taken c.args.out.now) (sink.faults c.args.out.now)) in
    let new = world (shelved (shelf.files c.prepare.new.shelf) (shelf.read_faults c.prepare.new.shelf) (shelf.write_faults c.prepare.new.shelf)) (printed (sink.taken c.execute.new.out) (sink.faults c.execute.new.out)) in
    after_run c.args.words.now old new c.in-Ok.prepared.machine c.in-Ok.prepared.steps c.execute.result c.in-Ok.ensures c.execute.ensures

pub returns-in-Ok-clause-headline : goal.returns-in-Ok-clause-headline
returns-in-Ok-clause-headline g c =
    let shelf = g.F.Shelf in let sink = g.O.Sink in
    let old = world (shelved (shelf.files c.args.shelf.now) (shelf.read_faults c.args.shelf.now) (shelf.write_faults c.args.shelf.now)) (printed (sink.taken c.args.out.now) (sink.faults c.args.out.now)) in
    let new = world (shelved (shelf.files c.prepare.new.shelf) (shelf.read_faults c.prepare.new.shelf) (shelf.write_faults c.prepare.new.shelf)) (printed (sink.taken c.execute.new.out) (sink.faults c.execute.new.out)) in
    told_of c.args.words.now c.execute.result old new (after_run c.args.words.now old new c.in-Ok.prepared.machine c.in-Ok.prepared.steps c.execute.result c.in-Ok.ensures c.execute.ensures)

pub returns-in-Err-clause-answers : goal.returns-in-Err-clause-answers
returns-in-Err-clause-answers g c =
    let shelf = g.F.Shelf in let sink = g.O.Sink in
    let old = world (shelved (shelf.files c.args.shelf.now) (shelf.read_faults c.args.shelf.now) (shelf.write_faults c.args.shelf.now)) (printed (sink.taken c.args.out.now) (sink.faults c.args.out.now)) in
    let new = world (shelved (shelf.files c.prepare.new.shelf) (shelf.read_faults c.prepare.new.shelf) (shelf.write_faults c.prepare.new.shelf)) (printed (sink.taken c.report.new.out) (sink.faults c.report.new.out)) in
    failed c.args.words.now old new c.in-Err.failure c.report.result c.in-Err.ensures c.report.ensures

pub returns-in-Err-clause-headline : goal.returns-in-Err-clause-headline
returns-in-Err-clause-headline g c =
    let shelf = g.F.Shelf in let sink = g.O.Sink in
    let old = world (shelved (shelf.files c.args.shelf.now) (shelf.read_faults c.args.shelf.now) (shelf.write_faults c.args.shelf.now)) (printed (sink.taken c.args.out.now) (sink.faults c.args.out.now)) in
    let new = world (shelved (shelf.files c.prepare.new.shelf) (shelf.read_faults c.prepare.new.shelf) (shelf.write_faults c.prepare.new.shelf)) (printed (sink.taken c.report.new.out) (sink.faults c.report.new.out)) in
    told_of c.args.words.now c.report.result old new (failed c.args.words.now old new c.in-Err.failure c.report.result c.in-Err.ensures c.report.ensures)

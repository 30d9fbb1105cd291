use Rattle.hb_top.specs.World.{shelved}
use Rattle.hb_top.proofs.PreparingLaws.{loads}
use Rattle.hb_top.proofs.prepare.prepare.Goals as goal

pub returns : goal.returns
returns g c =
    let shelf = g.F.Shelf in
    let old = shelved (shelf.files c.args.shelf.now) (shelf.read_faults c.args.shelf.now) (shelf.write_faults c.args.shelf.now) in
    let found = shelved (shelf.files c.find_image.new.shelf) (shelf.read_faults c.find_image.new.shelf) (shelf.write_faults c.find_image.new.shelf) in
    let read = shelved (shelf.files c.find_script.new.shelf) (shelf.read_faults c.find_script.new.shelf) (shelf.write_faults c.find_script.new.shelf) in
    let new = shelved (shelf.files c.finish.new.shelf) (shelf.read_faults c.finish.new.shelf) (shelf.write_faults c.finish.new.shelf) in
    loads c.args.words.now old found read new c.in_ok-command.command c.in_ok-image.image c.in_ok-script.script.lines c.in_ok-machine.machine c.steps_of-steps.result
    c.in_ok-command.ensures c.in_ok-image.ensures.0 c.in_ok-image.ensures.1 c.in_ok-image.ensures.2 c.in_ok-script.ensures.1 c.in_ok-script.ensures.2 c.in_ok-machine.ensures.0 c.in_ok-machine.ensures.1 c.steps_of-steps.ensures

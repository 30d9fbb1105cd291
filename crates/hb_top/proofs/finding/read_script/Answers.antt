use Rattle.hb_top.specs.World.{shelved}
use Rattle.hb_top.proofs.FindingLaws.{finds_script}
use Rattle.hb_top.proofs.finding.read_script.Goals as goal

pub returns : goal.returns
returns g c =
    let shelf = g.F.Shelf in
    let old = shelved (shelf.files c.args.shelf.now) (shelf.read_faults c.args.shelf.now) (shelf.write_faults c.args.shelf.now) in
    let new = shelved (shelf.files c.read_file.new.shelf) (shelf.read_faults c.read_file.new.shelf) (shelf.write_faults c.read_file.new.shelf) in
    finds_script old new c.args.name.now c.in_ok-bytes.bytes.items c.as_slice.result.now c.in_ok-bytes.ensures.1 c.as_slice.ensures.value c.args.ports.now c.in_ok-bytes.ensures.0 c.script_of.result c.script_of.ensures

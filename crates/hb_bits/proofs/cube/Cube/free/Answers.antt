use Rattle.hb_bits.specs.CubesLaws.{members-free}
use Rattle.hb_bits.proofs.cube.Cube.free.Goals as goal

pub returns-clause-members : goal.returns-clause-members
returns-clause-members c = members-free c.args.width

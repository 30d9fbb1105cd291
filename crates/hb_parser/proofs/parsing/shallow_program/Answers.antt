use Rattle.std.proofs.Common.{arith}
use Rattle.hb_parser.proofs.ParsingLaws.{deep_builds, shallow_builds}
use Rattle.hb_parser.proofs.parsing.shallow_program.Goals as goal

pub returns-in-Ok-Some : goal.returns-in-Ok-Some
returns-in-Ok-Some c = deep_builds c.refused.result (rw c.in-Ok-Some.field-0-is at c.in-Ok-Some.ensures.found) (c.refused.ensures.whole (omega arith))

pub returns-in-Ok-None : goal.returns-in-Ok-None
returns-in-Ok-None c = shallow_builds (rw c.in-Ok-None.field-0-is at c.in-Ok-None.ensures.found) c.whole_program.ensures.found c.whole_program.ensures.memory

use Rattle.std.proofs.Common.{arith}
use Rattle.hb_parser.proofs.ParsingLaws.{tree_faults, tree_only, tree_few, tree_refused, wrong_faults, wrong_only, wrong_refused}
use Rattle.hb_parser.proofs.parsing.parse.Goals as goal

pub returns-in-Ok-Ok-clause-faults : goal.returns-in-Ok-Ok-clause-faults
returns-in-Ok-Ok-clause-faults c = tree_faults (rw (c.in-Ok-Ok.field-0-is, c.as_slice.ensures) at c.in-Ok-Ok.ensures) (rw (c.as_slice-in-Ok-Ok.ensures) at c.shallow_program.ensures)

pub returns-in-Ok-Ok-clause-only : goal.returns-in-Ok-Ok-clause-only
returns-in-Ok-Ok-clause-only c = tree_only (rw (c.in-Ok-Ok.field-0-is, c.as_slice.ensures) at c.in-Ok-Ok.ensures) (rw (c.as_slice-in-Ok-Ok.ensures) at c.shallow_program.ensures)

pub returns-in-Ok-Ok-clause-refused : goal.returns-in-Ok-Ok-clause-refused
returns-in-Ok-Ok-clause-refused c = tree_refused (rw (c.in-Ok-Ok.field-0-is, c.as_slice.ensures) at c.in-Ok-Ok.ensures) (rw (c.as_slice-in-Ok-Ok.ensures) at c.shallow_program.ensures)

pub returns-in-Ok-Err-clause-faults : goal.returns-in-Ok-Err-clause-faults
returns-in-Ok-Err-clause-faults c = wrong_faults c.refused.result (rw (c.in-Ok-Err.field-0-is, c.as_slice.ensures) at c.in-Ok-Err.ensures) (c.refused.ensures.whole (omega arith))

pub returns-in-Ok-Err-clause-only : goal.returns-in-Ok-Err-clause-only
returns-in-Ok-Err-clause-only c = wrong_only c.refused.result (rw (c.in-Ok-Err.field-0-is, c.as_slice.ensures) at c.in-Ok-Err.ensures)

pub returns-in-Ok-Err-clause-refused : goal.returns-in-Ok-Err-clause-refused
returns-in-Ok-Err-clause-refused c = wrong_refused c.refused.result (rw (c.in-Ok-Err.field-0-is, c.as_slice.ensures) at c.in-Ok-Err.ensures) (c.refused.ensures.whole (omega arith))

pub returns-in-Ok-Ok-clause-few : goal.returns-in-Ok-Ok-clause-few
returns-in-Ok-Ok-clause-few c = tree_few (rw (c.in-Ok-Ok.field-0-is, c.as_slice.ensures) at c.in-Ok-Ok.ensures) (rw (c.as_slice-in-Ok-Ok.ensures) at c.shallow_program.ensures)

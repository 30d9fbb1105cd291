use Rattle.std.proofs.Common.{arith}
use Rattle.hb_top.proofs.SourceLaws.{form_refused}
use Rattle.hb_top.proofs.judging.form_of.Goals as goal

pub returns-in-Err-Form : goal.returns-in-Err-Form
returns-in-Err-Form c =
    rw c.failed.ensures (form_refused c.args.names.now c.args.program.now c.args.end c.in-Err-Form.place c.in-Err-Form.field-0 c.refused.result c.in-Err-Form.field-0-is c.in-Err-Form.ensures.only c.in-Err-Form.ensures.place (c.refused.ensures.whole (omega arith)))

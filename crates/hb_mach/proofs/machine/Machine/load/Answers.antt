use Rattle.hb_mach.proofs.RunLaws.{mach-grows}
use Rattle.hb_mach.proofs.machine.Machine.load.Goals as goal

pub returns-in_err-instrs-clause-grows : goal.returns-in_err-instrs-clause-grows
returns-in_err-instrs-clause-grows c = mach-grows c.args.image c.args.script.lines

pub returns-in_err-memory-clause-grows : goal.returns-in_err-memory-clause-grows
returns-in_err-memory-clause-grows c = mach-grows c.args.image c.args.script.lines

pub returns-in_err-inputs-clause-grows : goal.returns-in_err-inputs-clause-grows
returns-in_err-inputs-clause-grows c = mach-grows c.args.image c.args.script.lines

pub returns-clause-grows : goal.returns-clause-grows
returns-clause-grows c = mach-grows c.args.image c.args.script.lines

use Rattle.hb_mach.proofs.RunningLaws.{turn_ends, turn_goes, turn_fails}
use Rattle.hb_mach.proofs.machine.Machine.turn.Goals as goal

pub returns-in-Ended : goal.returns-in-Ended
returns-in-Ended g c = turn_ends _ _ c.in-Ended.field-0 _ _ c.in-Ended.ensures.turn

pub returns-in-Ok : goal.returns-in-Ok
returns-in-Ok g c = turn_goes _ _ c.step-step.result _ _ _ _ c.step-step.ensures.turn c.in-Ok.ensures.ok c.in-Ok.ensures.no_fault

pub returns-in-Err : goal.returns-in-Err
returns-in-Err g c = turn_fails _ _ c.step-step.result _ _ _ _ c.step-step.ensures.turn c.in-Err.ensures.failed c.in-Err.ensures.fault

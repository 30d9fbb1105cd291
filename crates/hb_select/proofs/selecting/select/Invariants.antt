use Rattle.std.proofs.Common.{◌≡◌, take, map}
use Rattle.std.specs.List.{flat_map}
use Rattle.hb_asm.specs.declared.part.AsmPart.TheVariants.{Instr as part}
use Rattle.hb_select.specs.Code.{step_code}
use Rattle.hb_select.proofs.selecting.select.Given as goal

abbrev pub invariant-loop-step : goal.invariant-loop-step
invariant-loop-step l = l.parts ≡ map part (flat_map step_code (take l.step-index l.step-items))

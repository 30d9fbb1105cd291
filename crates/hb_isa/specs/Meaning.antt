-- What it is for a step to be that of an instruction set which has RV32I.
use Rattle.std.specs.Prelude.{◌≡◌, ◌≢◌, Some, None}
use Rattle.hb_base.specs.declared.step.Step.{Step}
use Rattle.hb_isa.specs.State.{State}
use Rattle.hb_isa.specs.Table.{table, instruction_at_pc}

-- it does what the table of RV32I does, but where a run is going and the word at pc codes no instruction of RV32I
abbrev pub HasTable : (State → State × Step) → Type 0
HasTable step = (s : State) → (s.ended ≡ None → instruction_at_pc s ≢ Some None) → step s ≡ table s

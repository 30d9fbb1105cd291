-- The machine's table, after the RISC-V unprivileged ISA: what one step of RV32I does to the state, and what it shows.
use Rattle.std.specs.Prelude.{ℕ, ◌+◌, ◌-◌, ◌*◌, ◌/◌, ◌%◌, ◌^◌, min, Bool, true, false, ◌&&◌, ◌==◌, nat_le, if◌then◌else◌, slice_get, Option, Some, None, position, option_map, ℤ}
use Rattle.hb_asm.specs.declared.instr.Instr.{Instr}
use Rattle.hb_asm.specs.declared.instr.Instr.TheVariants.{Lui, Auipc, Jal, Jalr, Branch, Load, Store, OpImm, Op, Fence, Ecall, Ebreak}
use Rattle.hb_asm.specs.declared.instr.LoadOp.{LoadOp}
use Rattle.hb_asm.specs.declared.instr.StoreOp.{StoreOp}
use Rattle.hb_base.specs.declared.port.Dir.{Dir}
use Rattle.hb_base.specs.declared.port.Dir.TheVariants.{In, Out}
use Rattle.hb_base.specs.declared.port.Port.{Port}
use Rattle.hb_base.specs.declared.step.Step.{Step}
use Rattle.hb_base.specs.declared.step.Step.TheVariants.{Going, Read, Wrote, Ended}
use Rattle.hb_base.specs.declared.step.Stop.{Stop}
use Rattle.hb_base.specs.declared.step.Stop.TheVariants.{Done, Halt, Stack, InputEnd, Illegal, Misaligned, Unmapped, Break}
use Rattle.hb_asm.specs.Coding.{decode_of}
use Rattle.hb_asm.specs.Arithmetic.{wrapped, unsigned, alu_of, is_taken, load_size, store_size, extended, low_part}
use Rattle.hb_base.specs.Inputs.{first_value, without_first}
use Rattle.hb_isa.specs.Memory.{Memory, load, store}
use Rattle.hb_isa.specs.State.{State, code_base, register, with_register}

-- ---- how a step may leave the state

-- one step more, as far as they are counted
abbrev pub counted : ℕ → ℕ
counted done = min (done + 1) (2 ^ 64 - 1)

-- the step is done, and the next instruction is at this address
abbrev pub goes_to : ℕ → State → State
goes_to target s = record s { pc = target; done = counted s.done }

abbrev pub next_address : State → ℕ
next_address s = wrapped (s.pc + 4)

-- the instruction after this one comes next
abbrev pub goes_on : State → State
goes_on s = goes_to (next_address s) s

-- a step that ends the run changes nothing else
abbrev pub ending : Stop → State → State × Step
ending stop s = (record s { ended = Some stop; done = counted s.done }, Ended stop)

-- ---- computing and jumping

-- the register gets this word
unfoldable pub computed : ℕ → ℕ → State → State × Step
computed rd word s = (goes_on (with_register rd word s), Going)

-- a target that is no multiple of 4 is Misaligned
unfoldable pub branching : Bool → ℕ → State → State × Step
branching false target s = (goes_on s, Going)
branching true target s = if target % 4 == 0 then (goes_to target s, Going) else ending Misaligned s

-- a jump leaves the address after its own in a register, unless its target is misaligned
unfoldable pub jumping : ℕ → ℕ → State → State × Step
jumping rd target s = if target % 4 == 0 then (goes_to target (with_register rd (next_address s) s), Going) else ending Misaligned s

-- the number without its bit 0
abbrev pub even : ℕ → ℕ
even number = number - number % 2

-- ---- ports

abbrev pub is_in : Dir → Bool
is_in In = true
is_in Out = false

abbrev pub is_out : Dir → Bool
is_out In = false
is_out Out = true

-- at exactly its address, with exactly its width
abbrev pub is_met_at : ℕ → ℕ → Port → Bool
is_met_at address size port = (port.address == address) && (port.width == size)

abbrev pub is_read_at : ℕ → ℕ → Port → Bool
is_read_at address size port = is_in port.dir && is_met_at address size port

abbrev pub is_written_at : ℕ → ℕ → Port → Bool
is_written_at address size port = is_out port.dir && is_met_at address size port

-- ---- loads

-- the register gets the line's value, extended; the trace shows it as it stands in the line
unfoldable pub reading : Option ℕ → ℕ → LoadOp → ℕ → State → State × Step
reading None port op rd s = ending (InputEnd port) s
reading (Some value) port op rd s =
    (goes_on (with_register rd (extended op value) (record s { lines = without_first port s.lines })), Read port value)

unfoldable pub loading_port : Option ℕ → LoadOp → ℕ → State → State × Step
loading_port None op rd s = ending Unmapped s
loading_port (Some port) op rd s = reading (first_value port s.lines) port op rd s

-- a load reads memory where all its bytes stand there, and otherwise a port
unfoldable pub loading_memory : Option ℕ → LoadOp → ℕ → ℕ → State → State × Step
loading_memory (Some number) op rd address s = computed rd (extended op number) s
loading_memory None op rd address s = loading_port (position (is_read_at address (load_size op)) s.ports) op rd s

unfoldable pub loading : LoadOp → ℕ → ℕ → State → State × Step
loading op rd address s =
    if address % load_size op == 0 then loading_memory (load s.memory address (load_size op)) op rd address s
    else ending Misaligned s

-- ---- stores

unfoldable pub storing_port : Option ℕ → ℕ → State → State × Step
storing_port None word s = ending Unmapped s
storing_port (Some port) word s = (goes_on s, Wrote port word)

-- a store writes memory where all its bytes stand there, and otherwise a port
unfoldable pub storing_memory : Option Memory → StoreOp → ℕ → ℕ → State → State × Step
storing_memory (Some memory) op address word s = (goes_on (record s { memory = memory }), Going)
storing_memory None op address word s = storing_port (position (is_written_at address (store_size op)) s.ports) (low_part op word) s

unfoldable pub storing : StoreOp → ℕ → ℕ → State → State × Step
storing op address word s =
    if address % store_size op == 0 then storing_memory (store s.memory address (store_size op) word) op address word s
    else ending Misaligned s

-- ---- environment calls

-- x17 says which end: 0 is Done, 1 is Halt with x10, 2 is Stack
abbrev pub called : ℕ → ℕ → Stop
called number argument =
    if number == 0 then Done else (if number == 1 then Halt argument else (if number == 2 then Stack else Illegal))

-- ---- the table

abbrev pub sum_with : State → ℕ → ℤ → ℕ
sum_with s rs1 imm = wrapped (register s rs1 + unsigned imm)

abbrev pub from_here : State → ℤ → ℕ
from_here s imm = wrapped (s.pc + unsigned imm)

abbrev pub upper : ℕ → ℕ
upper imm = wrapped (imm * 2 ^ 12)

unfoldable pub execute : Instr → State → State × Step
execute (Lui rd imm) s = computed rd (upper imm) s
execute (Auipc rd imm) s = computed rd (wrapped (s.pc + upper imm)) s
execute (Jal rd imm) s = jumping rd (from_here s imm) s
execute (Jalr rd rs1 imm) s = jumping rd (even (sum_with s rs1 imm)) s
execute (Branch op rs1 rs2 imm) s = branching (is_taken op (register s rs1) (register s rs2)) (from_here s imm) s
execute (Load op rd rs1 imm) s = loading op rd (sum_with s rs1 imm) s
execute (Store op rs1 rs2 imm) s = storing op (sum_with s rs1 imm) (register s rs2) s
execute (OpImm op rd rs1 imm) s = computed rd (alu_of op (register s rs1) (unsigned imm)) s
execute (Op op rd rs1 rs2) s = computed rd (alu_of op (register s rs1) (register s rs2)) s
execute (Fence high rd) s = (goes_on s, Going)
execute Ecall s = ending (called (register s 17) (register s 10)) s
execute Ebreak s = ending Break s

-- the word of code at pc. None where pc is outside the code
abbrev pub word_at_pc : State → Option ℕ
word_at_pc s = if nat_le code_base s.pc then slice_get s.code ((s.pc - code_base) / 4) else None

-- the instruction there. Some None where the word codes none
abbrev pub instruction_at_pc : State → Option (Option Instr)
instruction_at_pc s = option_map decode_of (word_at_pc s)

unfoldable pub fetched : Option (Option Instr) → State → State × Step
fetched None s = ending Unmapped s
fetched (Some None) s = ending Illegal s
fetched (Some (Some instr)) s = execute instr s

-- after an end each step answers that end, and changes nothing
unfoldable pub running : Option Stop → State → State × Step
running (Some stop) s = (s, Ended stop)
running None s = fetched (instruction_at_pc s) s

-- one step of the machine
unfoldable pub table : State → State × Step
table s = running s.ended s

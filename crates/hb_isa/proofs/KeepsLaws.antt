-- No step changes code or ports.
use Rattle.std.proofs.Common.{◌≡◌, ℕ, zero, suc, ◌%◌, ◌==◌, Bool, true, false, if◌then◌else◌, Option, Some, None, refl, ◌∙◌, position}
use Rattle.hb_asm.specs.declared.instr.Instr.{Instr}
use Rattle.hb_asm.specs.declared.instr.Instr.TheVariants.{Lui, Auipc, Jal, Jalr, Branch, Load, Store, OpImm, Op, Fence, Ecall, Ebreak}
use Rattle.hb_asm.specs.declared.instr.LoadOp.{LoadOp}
use Rattle.hb_asm.specs.declared.instr.StoreOp.{StoreOp}
use Rattle.hb_base.specs.declared.step.Step.{Step}
use Rattle.hb_base.specs.declared.step.Stop.{Stop}
use Rattle.hb_runs.specs.Stepping.{after}
use Rattle.hb_asm.specs.Arithmetic.{load_size, store_size, low_part}
use Rattle.hb_base.specs.Inputs.{first_value}
use Rattle.hb_isa.specs.Memory.{Memory, load, store}
use Rattle.hb_isa.specs.State.{State}
use Rattle.hb_isa.specs.Table.{table, running, fetched, execute, computed, branching, jumping, loading, loading_memory, loading_port, reading, storing, storing_memory, storing_port, is_read_at, is_written_at, instruction_at_pc}

abbrev pub Keeps : State → State × Step → Type 0
Keeps s r = (r.0.code ≡ s.code) × (r.0.ports ≡ s.ports)

either : (s : State) (b : Bool) (x y : State × Step) → Keeps s x → Keeps s y → Keeps s (if b then x else y)
either s true x y p q = p
either s false x y p q = q

keeps-computed : (rd word : ℕ) (s : State) → Keeps s (computed rd word s)
unfolding computed
keeps-computed rd word s = (refl, refl)

keeps-branching : (taken : Bool) (target : ℕ) (s : State) → Keeps s (branching taken target s)
unfolding branching
keeps-branching false target s = (refl, refl)
keeps-branching true target s = either s (target % 4 == 0) _ _ (refl, refl) (refl, refl)

keeps-jumping : (rd target : ℕ) (s : State) → Keeps s (jumping rd target s)
unfolding jumping
keeps-jumping rd target s = either s (target % 4 == 0) _ _ (refl, refl) (refl, refl)

keeps-reading : (value : Option ℕ) (port : ℕ) (op : LoadOp) (rd : ℕ) (s : State) → Keeps s (reading value port op rd s)
unfolding reading
keeps-reading None port op rd s = (refl, refl)
keeps-reading (Some value) port op rd s = (refl, refl)

keeps-loading_port : (port : Option ℕ) (op : LoadOp) (rd : ℕ) (s : State) → Keeps s (loading_port port op rd s)
unfolding loading_port
keeps-loading_port None op rd s = (refl, refl)
keeps-loading_port (Some port) op rd s = keeps-reading (first_value port s.lines) port op rd s

keeps-loading_memory : (number : Option ℕ) (op : LoadOp) (rd address : ℕ) (s : State) → Keeps s (loading_memory number op rd address s)
unfolding loading_memory
keeps-loading_memory (Some number) op rd address s = keeps-computed rd _ s
keeps-loading_memory None op rd address s = keeps-loading_port (position (is_read_at address (load_size op)) s.ports) op rd s

keeps-loading : (op : LoadOp) (rd address : ℕ) (s : State) → Keeps s (loading op rd address s)
unfolding loading
keeps-loading op rd address s =
    either s (address % load_size op == 0) _ _ (keeps-loading_memory (load s.memory address (load_size op)) op rd address s) (refl, refl)

keeps-storing_port : (port : Option ℕ) (word : ℕ) (s : State) → Keeps s (storing_port port word s)
unfolding storing_port
keeps-storing_port None word s = (refl, refl)
keeps-storing_port (Some port) word s = (refl, refl)

keeps-storing_memory : (memory : Option Memory) (op : StoreOp) (address word : ℕ) (s : State) → Keeps s (storing_memory memory op address word s)
unfolding storing_memory
keeps-storing_memory (Some memory) op address word s = (refl, refl)
keeps-storing_memory None op address word s = keeps-storing_port (position (is_written_at address (store_size op)) s.ports) (low_part op word) s

keeps-storing : (op : StoreOp) (address word : ℕ) (s : State) → Keeps s (storing op address word s)
unfolding storing
keeps-storing op address word s =
    either s (address % store_size op == 0) _ _ (keeps-storing_memory (store s.memory address (store_size op) word) op address word s) (refl, refl)

keeps-execute : (instr : Instr) (s : State) → Keeps s (execute instr s)
unfolding execute
keeps-execute (Lui rd imm) s = keeps-computed rd _ s
keeps-execute (Auipc rd imm) s = keeps-computed rd _ s
keeps-execute (Jal rd imm) s = keeps-jumping rd _ s
keeps-execute (Jalr rd rs1 imm) s = keeps-jumping rd _ s
keeps-execute (Branch op rs1 rs2 imm) s = keeps-branching _ _ s
keeps-execute (Load op rd rs1 imm) s = keeps-loading op rd _ s
keeps-execute (Store op rs1 rs2 imm) s = keeps-storing op _ _ s
keeps-execute (OpImm op rd rs1 imm) s = keeps-computed rd _ s
keeps-execute (Op op rd rs1 rs2) s = keeps-computed rd _ s
keeps-execute (Fence high rd) s = (refl, refl)
keeps-execute Ecall s = (refl, refl)
keeps-execute Ebreak s = (refl, refl)

keeps-fetched : (fetch : Option (Option Instr)) (s : State) → Keeps s (fetched fetch s)
unfolding fetched
keeps-fetched None s = (refl, refl)
keeps-fetched (Some None) s = (refl, refl)
keeps-fetched (Some (Some instr)) s = keeps-execute instr s

keeps-running : (ended : Option Stop) (s : State) → Keeps s (running ended s)
unfolding running
keeps-running (Some stop) s = (refl, refl)
keeps-running None s = keeps-fetched (instruction_at_pc s) s

-- one step keeps code and ports
pub keeps : (s : State) → Keeps s (table s)
unfolding table
keeps s = keeps-running s.ended s

pub code-after : (n : ℕ) (s : State) → (after table n s).code ≡ s.code
unfolding after
code-after zero s = refl
code-after (suc n) s = code-after n (table s).0 ∙ (keeps s).0

pub ports-after : (n : ℕ) (s : State) → (after table n s).ports ≡ s.ports
unfolding after
ports-after zero s = refl
ports-after (suc n) s = ports-after n (table s).0 ∙ (keeps s).1

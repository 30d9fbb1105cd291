-- What the table lets through: a step that does not end Misaligned or Unmapped accesses at its alignment, in a region of
-- memory or at a port.
use Rattle.std.proofs.Common.{◌≡◌, ℕ, ◌%◌, true, false, ◌==◌, ◌⊎◌, inl, inr, Option, Some, None, IsSome, refl, position}
use Rattle.std.specs.Prelude.{IfSome, if◌then◌else◌}
use Rattle.std.proofs.lemmas.Bool.{cases_Bool, eqb-true}
use Rattle.hb_asm.specs.declared.instr.Instr.{Instr}
use Rattle.hb_asm.specs.declared.instr.Instr.TheVariants.{Lui, Auipc, Jal, Jalr, Branch, Load, Store, OpImm, Op, Fence, Ecall, Ebreak}
use Rattle.hb_asm.specs.declared.instr.LoadOp.{LoadOp}
use Rattle.hb_asm.specs.declared.instr.StoreOp.{StoreOp}
use Rattle.hb_asm.specs.Arithmetic.{load_size, store_size, low_part}
use Rattle.hb_base.specs.declared.step.Step.{Step}
use Rattle.hb_base.specs.declared.step.Step.TheVariants.{Ended}
use Rattle.hb_base.specs.declared.step.Stop.{Stop}
use Rattle.hb_base.specs.declared.step.Stop.TheVariants.{Misaligned, Unmapped}
use Rattle.hb_isa.specs.Memory.{Memory, is_within, load, store, number_in, put_in}
use Rattle.hb_isa.specs.State.{State, register}
use Rattle.hb_isa.specs.Table.{table, running, fetched, execute, loading, loading_memory, loading_port, storing, storing_memory, storing_port, ending, is_read_at, is_written_at, instruction_at_pc, sum_with}
use Rattle.hb_isa.specs.Touches.{Access, Loads, Stores, access_of, access_at, touched, touches}

-- in the areas, in the stack region, or at a port
pub data Through (memory : Memory) (port : Option ℕ) (address size : ℕ) : Type 0 where
  InAreas : is_within memory.areas address size ≡ true → Through memory port address size
  InStack : is_within memory.stack address size ≡ true → Through memory port address size
  OnPort : IsSome port → Through memory port address size

abbrev pub IsThrough : State → Access → Type 0
IsThrough s (Loads address size) = (address % size ≡ 0) × Through s.memory (position (is_read_at address size) s.ports) address size
IsThrough s (Stores address size) = (address % size ≡ 0) × Through s.memory (position (is_written_at address size) s.ports) address size

-- a step was not refused for its address
abbrev pub IsLetThrough : Step → Type 0
IsLetThrough (Ended Misaligned) = ⊥
IsLetThrough (Ended Unmapped) = ⊥
IsLetThrough _ = Unit {0}

no_number : {R : Type 0} (r : R) → None ≡ Some r → ⊥
no_number r e = cc

found_in : (memory : Memory) (port : Option ℕ) (address size number : ℕ) → load memory address size ≡ Some number → Through memory port address size
unfolding load
found_in memory port address size number e = by (cases_Bool (is_within memory.areas address size)) (cases_Bool (is_within memory.stack address size)) e
  where
    by : (is_within memory.areas address size ≡ true) ⊎ (is_within memory.areas address size ≡ false) → (is_within memory.stack address size ≡ true) ⊎ (is_within memory.stack address size ≡ false)
        → (if is_within memory.areas address size then Some (number_in memory.areas address size) else (if is_within memory.stack address size then Some (number_in memory.stack address size) else None)) ≡ Some number
        → Through memory port address size
    by (inl a) b e = InAreas a
    by (inr a) (inl b) e = InStack b
    by (inr a) (inr b) e = absurd (no_number number (rw (a, b) at e))

put_in_one : (memory : Memory) (port : Option ℕ) (address size number : ℕ) (new : Memory) → store memory address size number ≡ Some new → Through memory port address size
unfolding store
put_in_one memory port address size number new e = by (cases_Bool (is_within memory.areas address size)) (cases_Bool (is_within memory.stack address size)) e
  where
    by : (is_within memory.areas address size ≡ true) ⊎ (is_within memory.areas address size ≡ false) → (is_within memory.stack address size ≡ true) ⊎ (is_within memory.stack address size ≡ false)
        → (if is_within memory.areas address size then Some (record memory { areas = put_in memory.areas address size number }) else (if is_within memory.stack address size then Some (record memory { stack = put_in memory.stack address size number }) else None)) ≡ Some new
        → Through memory port address size
    by (inl a) b e = InAreas a
    by (inr a) (inl b) e = InStack b
    by (inr a) (inr b) e = absurd (no_number new (rw (a, b) at e))

port_read : (port : Option ℕ) (op : LoadOp) (rd : ℕ) (s : State) → IsLetThrough (loading_port port op rd s).1 → IsSome port
unfolding loading_port
port_read None op rd s let_through = absurd let_through
port_read (Some port) op rd s let_through = refl

port_written : (port : Option ℕ) (word : ℕ) (s : State) → IsLetThrough (storing_port port word s).1 → IsSome port
unfolding storing_port
port_written None word s let_through = absurd let_through
port_written (Some port) word s let_through = refl

memory_read : (number : Option ℕ) (op : LoadOp) (rd address : ℕ) (s : State) → load s.memory address (load_size op) ≡ number → IsLetThrough (loading_memory number op rd address s).1
    → Through s.memory (position (is_read_at address (load_size op)) s.ports) address (load_size op)
unfolding loading_memory
memory_read (Some number) op rd address s e let_through = found_in s.memory _ address (load_size op) number e
memory_read None op rd address s e let_through = OnPort (port_read (position (is_read_at address (load_size op)) s.ports) op rd s let_through)

memory_written : (memory : Option Memory) (op : StoreOp) (address word : ℕ) (s : State) → store s.memory address (store_size op) word ≡ memory → IsLetThrough (storing_memory memory op address word s).1
    → Through s.memory (position (is_written_at address (store_size op)) s.ports) address (store_size op)
unfolding storing_memory
memory_written (Some memory) op address word s e let_through = put_in_one s.memory _ address (store_size op) word memory e
memory_written None op address word s e let_through = OnPort (port_written (position (is_written_at address (store_size op)) s.ports) (low_part op word) s let_through)

loads_through : (op : LoadOp) (rd address : ℕ) (s : State) → IsLetThrough (loading op rd address s).1 → IsThrough s (Loads address (load_size op))
unfolding loading
loads_through op rd address s let_through = by (cases_Bool (address % load_size op == 0)) let_through
  where
    by : ((address % load_size op == 0) ≡ true) ⊎ ((address % load_size op == 0) ≡ false)
        → IsLetThrough (if address % load_size op == 0 then loading_memory (load s.memory address (load_size op)) op rd address s else ending Misaligned s).1
        → IsThrough s (Loads address (load_size op))
    by (inl whole) h = (eqb-true _ _ whole, memory_read (load s.memory address (load_size op)) op rd address s refl (rw whole at h))
    by (inr odd) h = absurd (rw odd at h)

stores_through : (op : StoreOp) (address word : ℕ) (s : State) → IsLetThrough (storing op address word s).1 → IsThrough s (Stores address (store_size op))
unfolding storing
stores_through op address word s let_through = by (cases_Bool (address % store_size op == 0)) let_through
  where
    by : ((address % store_size op == 0) ≡ true) ⊎ ((address % store_size op == 0) ≡ false)
        → IsLetThrough (if address % store_size op == 0 then storing_memory (store s.memory address (store_size op) word) op address word s else ending Misaligned s).1
        → IsThrough s (Stores address (store_size op))
    by (inl whole) h = (eqb-true _ _ whole, memory_written (store s.memory address (store_size op) word) op address word s refl (rw whole at h))
    by (inr odd) h = absurd (rw odd at h)

executes_through : (instr : Instr) (s : State) → IsLetThrough (execute instr s).1 → IfSome (access_of instr s) (IsThrough s)
unfolding execute access_of
executes_through (Lui rd imm) s h = tt
executes_through (Auipc rd imm) s h = tt
executes_through (Jal rd imm) s h = tt
executes_through (Jalr rd rs1 imm) s h = tt
executes_through (Branch op rs1 rs2 imm) s h = tt
executes_through (Load op rd rs1 imm) s h = loads_through op rd (sum_with s rs1 imm) s h
executes_through (Store op rs1 rs2 imm) s h = stores_through op (sum_with s rs1 imm) (register s rs2) s h
executes_through (OpImm op rd rs1 imm) s h = tt
executes_through (Op op rd rs1 rs2) s h = tt
executes_through (Fence high rd) s h = tt
executes_through Ecall s h = tt
executes_through Ebreak s h = tt

fetched_through : (fetch : Option (Option Instr)) (s : State) → IsLetThrough (fetched fetch s).1 → IfSome (access_at fetch s) (IsThrough s)
unfolding fetched access_at
fetched_through None s h = tt
fetched_through (Some None) s h = tt
fetched_through (Some (Some instr)) s h = executes_through instr s h

running_through : (ended : Option Stop) (s : State) → IsLetThrough (running ended s).1 → IfSome (touched ended s) (IsThrough s)
unfolding running touched
running_through (Some stop) s h = tt
running_through None s h = fetched_through (instruction_at_pc s) s h

pub touches-through : (s : State) → IsLetThrough (table s).1 → IfSome (touches s) (IsThrough s)
unfolding table touches
touches-through s h = running_through s.ended s h

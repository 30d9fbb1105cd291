-- The data accesses of steps: each load and each store, with its address and the number of its bytes, and where they
-- may lie.
use Rattle.std.specs.Prelude.{◌≡◌, ℕ, zero, suc, ◌+◌, ◌-◌, ◌%◌, ◌≤◌, List, [], ◌∷◌, Option, Some, None, IsSome, IfSome, position}
use Rattle.hb_asm.specs.declared.instr.Instr.{Instr}
use Rattle.hb_asm.specs.declared.instr.Instr.TheVariants.{Lui, Auipc, Jal, Jalr, Branch, Load, Store, OpImm, Op, Fence, Ecall, Ebreak}
use Rattle.hb_asm.specs.Arithmetic.{load_size, store_size}
use Rattle.hb_base.specs.declared.port.Port.{Port}
use Rattle.hb_base.specs.declared.step.Step.{Step}
use Rattle.hb_base.specs.declared.step.Stop.{Stop}
use Rattle.hb_isa.specs.Memory.{stack_end, beside_stack}
use Rattle.hb_isa.specs.State.{State}
use Rattle.hb_isa.specs.Table.{sum_with, instruction_at_pc, is_read_at, is_written_at}

-- a load or a store, with its address and the number of its bytes
pub data Access : Type 0 where
  Loads : ℕ → ℕ → Access
  Stores : ℕ → ℕ → Access

-- the access of an instruction that is done in a state
unfoldable pub access_of : Instr → State → Option Access
access_of (Lui rd imm) s = None
access_of (Auipc rd imm) s = None
access_of (Jal rd imm) s = None
access_of (Jalr rd rs1 imm) s = None
access_of (Branch op rs1 rs2 imm) s = None
access_of (Load op rd rs1 imm) s = Some (Loads (sum_with s rs1 imm) (load_size op))
access_of (Store op rs1 rs2 imm) s = Some (Stores (sum_with s rs1 imm) (store_size op))
access_of (OpImm op rd rs1 imm) s = None
access_of (Op op rd rs1 rs2) s = None
access_of (Fence high rd) s = None
access_of Ecall s = None
access_of Ebreak s = None

-- outside the code, and where a word codes no instruction, there is none
unfoldable pub access_at : Option (Option Instr) → State → Option Access
access_at None s = None
access_at (Some None) s = None
access_at (Some (Some instr)) s = access_of instr s

unfoldable pub touched : Option Stop → State → Option Access
touched (Some stop) s = None
touched None s = access_at (instruction_at_pc s) s

-- the access of the next step, if it has one. After an end there is none
unfoldable pub touches : State → Option Access
touches s = touched s.ended s

unfoldable pub with_access : Option Access → List Access → List Access
with_access None rest = rest
with_access (Some access) rest = access ∷ rest

-- the accesses of so many steps, in order
unfoldable pub all_touches : (State → State × Step) → ℕ → State → List Access
all_touches step zero s = []
all_touches step (suc n) s = with_access (touches s) (all_touches step n (step s).0)

-- ---- where they may lie

-- in one cell, at a port, or in the stack region of a stack of so many bytes. `InCell` says of an address and a number
-- of bytes that they lie in one cell
pub data Lies (InCell : ℕ → ℕ → Type 0) (port : Option ℕ) (stack address size : ℕ) : Type 0 where
  AtCell : InCell address size → Lies InCell port stack address size
  AtPort : IsSome port → Lies InCell port stack address size
  OnStack : stack_end - (stack + beside_stack) ≤ address → address + size ≤ stack_end → Lies InCell port stack address size

-- at its alignment; a load at an In port, and a store at an Out port, with exactly its address and width
abbrev pub Allowed : (ℕ → ℕ → Type 0) → List Port → ℕ → Access → Type 0
Allowed InCell ports stack (Loads address size) = (address % size ≡ 0) × Lies InCell (position (is_read_at address size) ports) stack address size
Allowed InCell ports stack (Stores address size) = (address % size ≡ 0) × Lies InCell (position (is_written_at address size) ports) stack address size

-- the next step accesses nothing, or what is allowed
abbrev pub IsAllowed : (ℕ → ℕ → Type 0) → List Port → ℕ → State → Type 0
IsAllowed InCell ports stack s = IfSome (touches s) (Allowed InCell ports stack)

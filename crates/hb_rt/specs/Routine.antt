-- What holds of a routine wherever it stands in the code: the steps that it takes, and what it leaves as it was.
use Rattle.std.specs.Prelude.{◌≡◌, ℕ, ◌+◌, ◌*◌, ◌^◌, ◌<◌, ◌≤◌, List, [], ◌++◌, map, length, slice_get, All, Contains, Some, None}
use Rattle.hb_asm.specs.declared.instr.Instr.{Instr}
use Rattle.hb_asm.specs.declared.instr.Instr.TheVariants.{Branch, OpImm, Op}
use Rattle.hb_asm.specs.Coding.{code_of}
use Rattle.hb_asm.specs.InRange.{InRange}
use Rattle.hb_isa.specs.State.{State, code_base, register}
use Rattle.hb_isa.specs.Run.{turn}
use Rattle.hb_isa.specs.Table.{instruction_at_pc}
use Rattle.hb_runs.specs.Simulation.{Walk}

-- the run has not ended, and its 32 registers hold words
pub record IsRunning (s : State) : Type 0 where
  pub going : s.ended ≡ None
  pub registers : length s.registers ≡ 32
  pub words : (number : ℕ) → register s number < 2 ^ 32

-- the routine is the part of the code that begins at pc
pub record StandsAtPc (routine : List Instr) (s : State) : Type 0 where
  pub before : List ℕ
  pub behind : List ℕ
  pub code : s.code ≡ before ++ (map code_of routine ++ behind)
  pub pc : s.pc ≡ code_base + 4 * length before
  pub low : s.pc + 4 * length routine < 2 ^ 32

-- the machine stands at an instruction of the routine, which begins at this address
pub record StandsIn (routine : List Instr) (from : ℕ) (s : State) : Type 0 where
  pub place : ℕ
  pub pc : s.pc ≡ from + 4 * place
  pub instr : Instr
  pub there : slice_get routine place ≡ Some instr
  pub fetched : instruction_at_pc s ≡ Some (Some instr)

-- so many steps lead from one state to another. Each is done by an instruction of the routine, and shows nothing
abbrev pub Leads : List Instr → ℕ → ℕ → State → State → Type 0
Leads routine from steps s t = Walk turn (StandsIn routine from) steps [] s t

-- pc is right behind the routine, and nothing has changed but these registers and the count of steps
pub record Leaves (routine : List Instr) (changed : List ℕ) (s t : State) : Type 0 where
  pub pc : t.pc ≡ s.pc + 4 * length routine
  pub code : t.code ≡ s.code
  pub ports : t.ports ≡ s.ports
  pub memory : t.memory ≡ s.memory
  pub lines : t.lines ≡ s.lines
  pub running : IsRunning t
  pub kept : (number : ℕ) → (Contains changed number → ⊥) → register t number ≡ register s number

-- at most `most` steps lead through the routine, and then the result holds
pub record Passes (routine : List Instr) (most : ℕ) (changed : List ℕ) (Result : State → Type 0) (s : State) : Type 0 where
  pub steps : ℕ
  pub end : State
  pub few : steps ≤ most
  pub leads : Leads routine s.pc steps s end
  pub leaves : Leaves routine changed s end
  pub result : Result end

-- an instruction that computes or branches: it accesses no memory
abbrev pub IsComputing : Instr → Type 0
IsComputing (Branch op rs1 rs2 imm) = Unit {0}
IsComputing (OpImm op rd rs1 imm) = Unit {0}
IsComputing (Op op rd rs1 rs2) = Unit {0}
IsComputing _ = ⊥

-- few instructions. Each has a word, and accesses no memory
pub record IsPlain (routine : List Instr) (longest : ℕ) : Type 0 where
  pub short : length routine ≤ longest
  pub in_range : All InRange routine
  pub computing : All IsComputing routine

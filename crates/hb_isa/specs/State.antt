-- The state of the machine, and the state in which a run starts.
use Rattle.std.specs.Prelude.{ℕ, ◌==◌, if◌then◌else◌, List, replicate, slice_index, slice_set, Option, None}
use Rattle.hb_base.specs.declared.port.Port.{Port}
use Rattle.hb_base.specs.declared.script.ScriptLine.{ScriptLine}
use Rattle.hb_base.specs.declared.step.Stop.{Stop}
use Rattle.hb_isa.specs.Memory.{Memory, zeroed}

-- `lines` are those not yet taken, `ended` is how the run has ended, `done` counts steps and stays at 2^64 - 1
pub record State : Type 0 where
  pub code : List ℕ
  pub ports : List Port
  pub pc : ℕ
  pub registers : List ℕ
  pub memory : Memory
  pub lines : List ScriptLine
  pub ended : Option Stop
  pub done : ℕ

-- where code stands
abbrev pub code_base : ℕ
code_base = 65536

-- the state in which a run starts: all registers and all bytes are zero
abbrev pub started : List ℕ → List Port → ℕ → ℕ → List ScriptLine → State
started code ports areas stack lines = record {
  code = code;
  ports = ports;
  pc = code_base;
  registers = replicate 32 0;
  memory = zeroed areas stack;
  lines = lines;
  ended = None;
  done = 0;
}

-- x0 reads 0, and what is written to it is lost
abbrev pub read_register : List ℕ → ℕ → ℕ
read_register registers number = if number == 0 then 0 else slice_index registers number

abbrev pub write_register : List ℕ → ℕ → ℕ → List ℕ
write_register registers number word = if number == 0 then registers else slice_set registers number word

abbrev pub register : State → ℕ → ℕ
register s number = read_register s.registers number

abbrev pub with_register : ℕ → ℕ → State → State
with_register number word s = record s { registers = write_register s.registers number word }

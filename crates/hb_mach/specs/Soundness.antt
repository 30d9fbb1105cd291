-- What every machine keeps beside its state.
use Rattle.std.specs.Prelude.{◌≡◌, ℕ, Bool, true, false, IsTrue, List, map, Option, IfSome}
use Rattle.hb_asm.specs.declared.instr.Instr.{Instr}
use Rattle.hb_base.specs.declared.port.Port.{Port}
use Rattle.hb_base.specs.declared.script.ScriptLine.{ScriptLine}
use Rattle.hb_base.specs.declared.step.Stop.{Stop}
use Rattle.hb_base.specs.declared.step.Stop.TheVariants.{Done, Halt, Stack, InputEnd, Steps, Illegal, Misaligned, Unmapped, Break, Sink}
use Rattle.hb_base.specs.Ports.{ArePorts}
use Rattle.hb_asm.specs.Coding.{decode_of}
use Rattle.hb_base.specs.Inputs.{AreInputs}
use Rattle.hb_script.specs.Ends.{IsNamed}

-- the ends of a machine: the steps allowed and a line that could not be written are none
abbrev pub is_own : Stop → Bool
is_own Done = true
is_own (Halt argument) = true
is_own Stack = true
is_own (InputEnd port) = true
is_own Steps = false
is_own Illegal = true
is_own Misaligned = true
is_own Unmapped = true
is_own Break = true
is_own Sink = false

abbrev pub IsOwnEnd : Option Stop → Type 0
IsOwnEnd ended = IfSome ended (λ stop. IsTrue (is_own stop))

-- a port that the end names is one of these
abbrev pub IsNamedEnd : List Port → Option Stop → Type 0
IsNamedEnd ports ended = IfSome ended (λ stop. IsNamed ports stop)

-- the instructions are those that the code's words code, the ports keep their rules, and each line is an input of a port
pub record IsSound (code : List ℕ) (instrs : List (Option Instr)) (ports : List Port) (lines : List ScriptLine) (ended : Option Stop) : Type 0 where
  pub instructions : instrs ≡ map decode_of code
  pub rules : ArePorts ports
  pub inputs : AreInputs ports lines
  pub own : IsOwnEnd ended
  pub named : IsNamedEnd ports ended

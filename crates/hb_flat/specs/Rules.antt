-- The rules that a flat program keeps: then each count has a meaning.
use Rattle.std.specs.Prelude.{◌≡◌, ℕ, ◌*◌, ◌%◌, ◌^◌, ◌<◌, ◌≤◌, List, length, All, IsSome}
use Rattle.hb_base.specs.declared.port.Port.{Port}
use Rattle.hb_base.specs.Ports.{ArePorts}
use Rattle.hb_flat.specs.declared.form.Operand.{Operand}
use Rattle.hb_flat.specs.declared.form.Operand.TheVariants.{Word, Number}
use Rattle.hb_flat.specs.declared.form.FlatStep.{FlatStep}
use Rattle.hb_flat.specs.declared.form.FlatStep.TheVariants.{Set, Alu, Load, Store}
use Rattle.hb_flat.specs.declared.form.FlatBlock.{FlatBlock}
use Rattle.hb_flat.specs.declared.form.Flat.{Flat}
use Rattle.hb_flat.specs.Meaning.{read_at, written_at}

-- a word of a frame with so many words, or a number of 32 bits
abbrev pub IsOperand : ℕ → Operand → Type 0
IsOperand words (Word n) = n < words
IsOperand words (Number n) = n < 2 ^ 32

-- an address at which a port is read, or written, with this width
abbrev pub IsRead : List Port → ℕ → Operand → Type 0
IsRead ports width (Word n) = ⊥
IsRead ports width (Number address) = IsSome (read_at ports address width)

abbrev pub IsWritten : List Port → ℕ → Operand → Type 0
IsWritten ports width (Word n) = ⊥
IsWritten ports width (Number address) = IsSome (written_at ports address width)

abbrev pub IsStep : List Port → ℕ → FlatStep → Type 0
IsStep ports words (Set word a) = (word < words) × IsOperand words a
IsStep ports words (Alu word op a b) = (word < words) × IsOperand words a × IsOperand words b
IsStep ports words (Load word address width) = (word < words) × IsRead ports width address
IsStep ports words (Store address width a) = IsWritten ports width address × IsOperand words a

-- the frame has room in a stack of so many bytes
pub record IsBlock (ports : List Port) (stack : ℕ) (block : FlatBlock) : Type 0 where
  pub frame : 4 * block.words ≤ stack
  pub steps : All (IsStep ports block.words) block.steps

-- one block, with which the program begins
pub record IsFlat (flat : Flat) (ports : List Port) : Type 0 where
  pub rules : ArePorts ports
  pub single : length flat.blocks ≡ 1
  pub entry : flat.entry ≡ 0
  pub rooms : length flat.rooms ≡ 1
  pub stack_whole : flat.stack % 4 ≡ 0
  pub stack_least : 4096 ≤ flat.stack
  pub stack_most : flat.stack ≤ 16777216
  pub blocks : All (IsBlock ports flat.stack) flat.blocks

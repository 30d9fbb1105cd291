-- The rules that a flat program with frames keeps. What a turn asks for while it is done, as that a word has a value, is no
-- rule: where it does not hold the turn is wrong.
use Rattle.std.specs.Prelude.{◌≡◌, ℕ, suc, ◌+◌, ◌%◌, ◌^◌, ◌<◌, ◌≤◌, ◌⊎◌, List, [], ◌∷◌, length, slice_get, All, IsSomeAnd, None}
use Rattle.hb_frames.specs.declared.form.Operand.{Operand}
use Rattle.hb_frames.specs.declared.form.Operand.TheVariants.{Word, Number}
use Rattle.hb_frames.specs.declared.form.Home.{Home}
use Rattle.hb_frames.specs.declared.form.Home.TheVariants.{Stack, Shared, Start}
use Rattle.hb_frames.specs.declared.form.Step.{Step}
use Rattle.hb_frames.specs.declared.form.Step.TheVariants.{Set, Alu, Multiply, Divide, Remainder, Load, Store, Call}
use Rattle.hb_frames.specs.declared.form.Tail.{Tail}
use Rattle.hb_frames.specs.declared.form.Tail.TheVariants.{Done, Halt, Return, Goto, Jump, Switch}
use Rattle.hb_frames.specs.declared.form.Block.{Block}
use Rattle.hb_frames.specs.declared.form.Frames.{Frames}

-- a number has 32 bits
abbrev pub IsOperand : Operand → Type 0
IsOperand (Word word) = word < 2 ^ 30
IsOperand (Number number) = number < 2 ^ 32

abbrev pub IsStep : Step → Type 0
IsStep (Set word a) = IsOperand a
IsStep (Alu word op a b) = IsOperand a × IsOperand b
IsStep (Multiply word a b) = IsOperand a × IsOperand b
IsStep (Divide word a b) = IsOperand a × IsOperand b
IsStep (Remainder word a b) = IsOperand a × IsOperand b
IsStep (Load word address size) = IsOperand address
IsStep (Store address size a) = IsOperand address × IsOperand a
IsStep (Call block arguments results) = All IsOperand arguments

abbrev pub IsTail : Tail → Type 0
IsTail Done = Unit {0}
IsTail (Halt code) = IsOperand code
IsTail (Return results) = All IsOperand results
IsTail (Goto block) = Unit {0}
IsTail (Jump block arguments) = All IsOperand arguments
IsTail (Switch number blocks) = IsOperand number

-- On the shared words, words are handed over in their own place, from the first on. So a source is not before its
-- destination, or behind all destinations.
abbrev pub IsAhead : ℕ → ℕ → Operand → Type 0
IsAhead count place (Word word) = (place ≤ word) ⊎ (count ≤ word)
IsAhead count place (Number number) = Unit {0}

unfoldable pub AreAhead : ℕ → ℕ → List Operand → Type 0
AreAhead count place [] = Unit {0}
AreAhead count place (operand ∷ operands) = IsAhead count place operand × AreAhead count (suc place) operands

abbrev pub MovesAhead : Tail → Type 0
MovesAhead (Return results) = AreAhead (length results) 0 results
MovesAhead (Jump block arguments) = AreAhead (length arguments) 0 arguments
MovesAhead _ = Unit {0}

abbrev pub IsAtHome : Home → Tail → Type 0
IsAtHome (Stack room) tail = (16 ≤ room) × (room % 4 ≡ 0) × (room < 2 ^ 31)
IsAtHome Shared tail = MovesAhead tail
IsAtHome Start tail = Unit {0}

pub record IsBlock (block : Block) : Type 0 where
  pub at_home : IsAtHome block.home block.tail
  pub each_step : All IsStep block.steps
  pub last : IsTail block.tail

-- the program begins with a block of its own home that is not called
pub record IsFirst (block : Block) : Type 0 where
  pub own : block.home ≡ Start
  pub uncalled : block.entry ≡ None

pub record IsFrames (frames : Frames) : Type 0 where
  pub first : IsSomeAnd (slice_get frames.blocks frames.entry) IsFirst
  pub few : length frames.blocks + 16 < 2 ^ 32
  pub stack_least : 4096 ≤ frames.stack
  pub stack_most : frames.stack ≤ 16777216
  pub each_block : All IsBlock frames.blocks

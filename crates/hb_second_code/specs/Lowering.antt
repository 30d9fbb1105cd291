-- The flat program of a source: variable k is the word k, and one word more holds what an operator gives.
use Rattle.std.specs.Prelude.{ℕ, ◌+◌, List, [], ◌∷◌, ◌++◌, slice_get}
use Rattle.std.specs.Option.{option_map_or}
use Rattle.hb_base.specs.declared.port.Port.{Port}
use Rattle.hb_asm.specs.declared.instr.AluOp.{AluOp}
use Rattle.hb_asm.specs.declared.instr.AluOp.TheVariants.{Add as AddOp, Sub as SubOp, And as AndOp, Or as OrOp, Xor as XorOp}
use Rattle.hb_flat.specs.declared.form.Operand.{Operand}
use Rattle.hb_flat.specs.declared.form.Operand.TheVariants.{Word, Number}
use Rattle.hb_flat.specs.declared.form.FlatStep.{FlatStep}
use Rattle.hb_flat.specs.declared.form.FlatStep.TheVariants.{Alu, Load, Store}
use Rattle.hb_second.specs.declared.source.Atom.{Atom}
use Rattle.hb_second.specs.declared.source.Atom.TheVariants.{Literal, Variable}
use Rattle.hb_second.specs.declared.source.Operator.{Operator}
use Rattle.hb_second.specs.declared.source.Operator.TheVariants.{Add, Sub, And, Or, Xor}
use Rattle.hb_second.specs.declared.source.Argument.{Argument}
use Rattle.hb_second.specs.declared.source.Argument.TheVariants.{Atom as OneAtom, Operation}
use Rattle.hb_flat.specs.declared.form.FlatTail.TheVariants.{Done}
use Rattle.hb_flat.specs.declared.form.FlatBlock.{FlatBlock}
use Rattle.hb_flat.specs.declared.form.Flat.{Flat}
use Rattle.hb_second.specs.declared.source.Source.{Source}
use Rattle.hb_second.specs.declared.source.Statement.{Statement}
use Rattle.hb_second.specs.declared.source.Statement.TheVariants.{Read, Write}

abbrev pub operand_of : Atom → Operand
operand_of (Literal value) = Number value
operand_of (Variable number) = Word number

abbrev pub alu_op_of : Operator → AluOp
alu_op_of Add = AddOp
alu_op_of Sub = SubOp
alu_op_of And = AndOp
alu_op_of Or = OrOp
alu_op_of Xor = XorOp

-- where the port of this number stands
abbrev pub address_of : List Port → ℕ → Operand
address_of ports number = Number (option_map_or (λ port. port.address) (slice_get ports number) 0)

-- how many variables the statements bind
abbrev pub reads : List Statement → ℕ
reads [] = 0
reads (Read port ∷ ss) = reads ss + 1
reads (Write port argument ∷ ss) = reads ss

-- a write to the port; what an operator gives is set in a word of its own, and then written
abbrev pub write_steps : List Port → ℕ → ℕ → Argument → List FlatStep
write_steps ports scratch port (OneAtom a) = Store (address_of ports port) 1 (operand_of a) ∷ []
write_steps ports scratch port (Operation a op b) =
    Alu scratch (alu_op_of op) (operand_of a) (operand_of b) ∷ Store (address_of ports port) 1 (Word scratch) ∷ []

-- the steps of statements where so many variables are bound
abbrev pub steps_of : List Port → ℕ → ℕ → List Statement → List FlatStep
steps_of ports scratch bound [] = []
steps_of ports scratch bound (Read port ∷ ss) = Load bound (address_of ports port) 1 ∷ steps_of ports scratch (bound + 1) ss
steps_of ports scratch bound (Write port argument ∷ ss) = write_steps ports scratch port argument ++ steps_of ports scratch bound ss

-- how many variables a statement binds, and its steps
abbrev pub binds : Statement → ℕ
binds (Read port) = 1
binds (Write port argument) = 0

abbrev pub statement_steps : List Port → ℕ → ℕ → Statement → List FlatStep
statement_steps ports scratch bound (Read port) = Load bound (address_of ports port) 1 ∷ []
statement_steps ports scratch bound (Write port argument) = write_steps ports scratch port argument

-- the stack of a program, in bytes
abbrev pub stack_size : ℕ
stack_size = 1048576

abbrev pub block_of : Source → FlatBlock
block_of source = record {
  words = reads source.statements + 1;
  steps = steps_of source.ports (reads source.statements) 0 source.statements;
  tail = Done;
}

-- one block, with which the program begins
abbrev pub flat_of : Source → Flat
flat_of source = record { blocks = block_of source ∷ []; rooms = 0 ∷ []; entry = 0; stack = stack_size }

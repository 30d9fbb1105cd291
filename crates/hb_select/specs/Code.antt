-- The instructions of a flat program, step by step.
use Rattle.std.specs.Prelude.{ℕ, ℤ, pos, negsuc, ◌+◌, ◌-◌, ◌*◌, ◌/◌, ◌%◌, ◌==◌, nat_lt, if◌then◌else◌, List, [], ◌∷◌, ◌++◌, map, slice_get, Option, Some, None}
use Rattle.std.specs.List.{flat_map}
use Rattle.hb_asm.specs.declared.instr.AluOp.TheVariants.{Add}
use Rattle.hb_asm.specs.declared.instr.LoadOp.{LoadOp}
use Rattle.hb_asm.specs.declared.instr.LoadOp.TheVariants.{Lw, Lbu, Lhu}
use Rattle.hb_asm.specs.declared.instr.StoreOp.{StoreOp}
use Rattle.hb_asm.specs.declared.instr.StoreOp.TheVariants.{Sb, Sh, Sw}
use Rattle.hb_asm.specs.declared.instr.Instr.{Instr}
use Rattle.hb_asm.specs.declared.instr.Instr.TheVariants.{Lui, Op, OpImm, Ecall, Load as LoadInstr, Store as StoreInstr}
use Rattle.hb_asm.specs.declared.part.AsmPart.{AsmPart}
use Rattle.hb_asm.specs.declared.part.AsmPart.TheVariants.{Instr as part}
use Rattle.hb_asm.specs.Coding.{code_of}
use Rattle.hb_asm.specs.InRange.{InRange}
use Rattle.hb_flat.specs.declared.form.Operand.{Operand}
use Rattle.hb_flat.specs.declared.form.Operand.TheVariants.{Word, Number}
use Rattle.hb_flat.specs.declared.form.FlatStep.{FlatStep}
use Rattle.hb_flat.specs.declared.form.FlatStep.TheVariants.{Set, Alu, Load, Store}
use Rattle.hb_flat.specs.declared.form.FlatTail.{FlatTail}
use Rattle.hb_flat.specs.declared.form.FlatTail.TheVariants.{Done}
use Rattle.hb_flat.specs.declared.form.FlatBlock.{FlatBlock}
use Rattle.hb_flat.specs.declared.form.Flat.{Flat}

-- where the words of frames end: 40000000 without the bytes beside the stack
abbrev pub frames_end : ℕ
frames_end = 1073740800

-- the first word of a frame is the highest
abbrev pub address_of : ℕ → ℕ
address_of word = frames_end - 4 * (word + 1)

-- a number is its upper part times 4,096 and its signed lower part, wrapped at 32 bits
abbrev pub upper_part : ℕ → ℕ
upper_part number = (number + 2048) / 4096 % 1048576

abbrev pub lower_part : ℕ → ℤ
lower_part number = if nat_lt (number % 4096) 2048 then pos (number % 4096) else negsuc (4095 - number % 4096)

-- ---- what each step becomes: x5 and x6 hold operands, x5 what is computed, x7 an address

abbrev pub operand_code : ℕ → Operand → List Instr
operand_code register (Number number) = Lui register (upper_part number) ∷ OpImm Add register register (lower_part number) ∷ []
operand_code register (Word word) = Lui register (upper_part (address_of word)) ∷ LoadInstr Lw register register (lower_part (address_of word)) ∷ []

abbrev pub put_code : ℕ → List Instr
put_code word = Lui 7 (upper_part (address_of word)) ∷ StoreInstr Sw 7 5 (lower_part (address_of word)) ∷ []

abbrev pub load_of : ℕ → LoadOp
load_of width = if width == 1 then Lbu else (if width == 2 then Lhu else Lw)

abbrev pub store_of : ℕ → StoreOp
store_of width = if width == 1 then Sb else (if width == 2 then Sh else Sw)

abbrev pub step_code : FlatStep → List Instr
step_code (Set word a) = operand_code 5 a ++ put_code word
step_code (Alu word op a b) = operand_code 5 a ++ (operand_code 6 b ++ Op op 5 5 6 ∷ put_code word)
step_code (Load word address width) = operand_code 5 address ++ LoadInstr (load_of width) 5 5 (pos 0) ∷ put_code word
step_code (Store address width a) = operand_code 5 address ++ (operand_code 6 a ++ StoreInstr (store_of width) 5 6 (pos 0) ∷ [])

-- x17 says which end it is
abbrev pub tail_code : FlatTail → List Instr
tail_code Done = OpImm Add 17 0 (pos 0) ∷ Ecall ∷ []

-- ---- whole programs

unfoldable pub code_from : List FlatStep → FlatTail → List Instr
code_from steps tail = flat_map step_code steps ++ tail_code tail

abbrev pub block_code : Option FlatBlock → List Instr
block_code None = []
block_code (Some block) = code_from block.steps block.tail

abbrev pub program : Flat → List Instr
program flat = block_code (slice_get flat.blocks flat.entry)

abbrev pub parts_of : Flat → List AsmPart
parts_of flat = map part (program flat)

-- ---- words

abbrev pub IsPart : AsmPart → Type 0
IsPart (part instr) = InRange instr

abbrev pub word_of : AsmPart → ℕ
word_of (part instr) = code_of instr

abbrev pub words_of : List AsmPart → List ℕ
words_of parts = map word_of parts

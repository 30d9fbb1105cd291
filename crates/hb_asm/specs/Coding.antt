-- How 32 bits code an instruction: its format with the opcode and the function codes of the ISA's tables.
use Rattle.std.specs.Prelude.{ℕ, ℤ, ◌+◌, ◌*◌, ◌^◌, ◌==◌, Bool, true, false, if◌then◌else◌, pos, Option, Some, None, option_map}
use Rattle.hb_asm.specs.declared.instr.AluOp.{AluOp}
use Rattle.hb_asm.specs.declared.instr.AluOp.TheVariants.{Add, Sub, Sll, Slt, Sltu, Xor, Srl, Sra, Or, And}
use Rattle.hb_asm.specs.declared.instr.BranchOp.{BranchOp}
use Rattle.hb_asm.specs.declared.instr.BranchOp.TheVariants.{Beq, Bne, Blt, Bge, Bltu, Bgeu}
use Rattle.hb_asm.specs.declared.instr.LoadOp.{LoadOp}
use Rattle.hb_asm.specs.declared.instr.LoadOp.TheVariants.{Lb, Lh, Lw, Lbu, Lhu}
use Rattle.hb_asm.specs.declared.instr.StoreOp.{StoreOp}
use Rattle.hb_asm.specs.declared.instr.StoreOp.TheVariants.{Sb, Sh, Sw}
use Rattle.hb_asm.specs.declared.instr.Instr.{Instr}
use Rattle.hb_asm.specs.declared.instr.Instr.TheVariants.{
  Lui,
  Auipc,
  Jal,
  Jalr,
  Branch,
  Load,
  Store,
  OpImm,
  Op,
  Fence,
  Ecall,
  Ebreak,
}
use Rattle.hb_asm.specs.Bits.{bits, to_bits}
use Rattle.hb_asm.specs.Formats.{
  r_word,
  i_word,
  s_word,
  b_word,
  u_word,
  j_word,
  opcode_in,
  rd_in,
  funct3_in,
  rs1_in,
  rs2_in,
  funct7_in,
  i_immediate,
  s_immediate,
  b_immediate,
  u_immediate,
  j_immediate,
}

abbrev pub branch_funct3 : BranchOp → ℕ
branch_funct3 Beq = 0b000
branch_funct3 Bne = 0b001
branch_funct3 Blt = 0b100
branch_funct3 Bge = 0b101
branch_funct3 Bltu = 0b110
branch_funct3 Bgeu = 0b111

abbrev pub load_funct3 : LoadOp → ℕ
load_funct3 Lb = 0b000
load_funct3 Lh = 0b001
load_funct3 Lw = 0b010
load_funct3 Lbu = 0b100
load_funct3 Lhu = 0b101

abbrev pub store_funct3 : StoreOp → ℕ
store_funct3 Sb = 0b000
store_funct3 Sh = 0b001
store_funct3 Sw = 0b010

abbrev pub alu_funct3 : AluOp → ℕ
alu_funct3 Add = 0b000
alu_funct3 Sub = 0b000
alu_funct3 Sll = 0b001
alu_funct3 Slt = 0b010
alu_funct3 Sltu = 0b011
alu_funct3 Xor = 0b100
alu_funct3 Srl = 0b101
alu_funct3 Sra = 0b101
alu_funct3 Or = 0b110
alu_funct3 And = 0b111

abbrev pub alu_funct7 : AluOp → ℕ
alu_funct7 Add = 0b0000000
alu_funct7 Sub = 0b0100000
alu_funct7 Sll = 0b0000000
alu_funct7 Slt = 0b0000000
alu_funct7 Sltu = 0b0000000
alu_funct7 Xor = 0b0000000
alu_funct7 Srl = 0b0000000
alu_funct7 Sra = 0b0100000
alu_funct7 Or = 0b0000000
alu_funct7 And = 0b0000000

abbrev pub is_shift : AluOp → Bool
is_shift Add = false
is_shift Sub = false
is_shift Sll = true
is_shift Slt = false
is_shift Sltu = false
is_shift Xor = false
is_shift Srl = true
is_shift Sra = true
is_shift Or = false
is_shift And = false

-- a shift has its amount where `Op` has rs2, and the same funct7
abbrev pub op_imm_word : AluOp → ℕ → ℕ → ℤ → ℕ
op_imm_word op rd rs1 imm =
    if is_shift op
    then r_word 0b0010011 rd (alu_funct3 op) rs1 (to_bits 5 imm) (alu_funct7 op)
    else i_word 0b0010011 rd (alu_funct3 op) rs1 (to_bits 12 imm)

-- the word of an instruction whose fields are in range
unfoldable pub code_of : Instr → ℕ
code_of (Lui rd imm) = u_word 0b0110111 rd imm
code_of (Auipc rd imm) = u_word 0b0010111 rd imm
code_of (Jal rd imm) = j_word 0b1101111 rd (to_bits 21 imm)
code_of (Jalr rd rs1 imm) = i_word 0b1100111 rd 0b000 rs1 (to_bits 12 imm)
code_of (Branch op rs1 rs2 imm) = b_word 0b1100011 (branch_funct3 op) rs1 rs2 (to_bits 13 imm)
code_of (Load op rd rs1 imm) = i_word 0b0000011 rd (load_funct3 op) rs1 (to_bits 12 imm)
code_of (Store op rs1 rs2 imm) = s_word 0b0100011 (store_funct3 op) rs1 rs2 (to_bits 12 imm)
code_of (OpImm op rd rs1 imm) = op_imm_word op rd rs1 imm
code_of (Op op rd rs1 rs2) = r_word 0b0110011 rd (alu_funct3 op) rs1 rs2 (alu_funct7 op)
code_of (Fence high rd) = 0b0001111 + rd * 2 ^ 7 + 0b000 * 2 ^ 12 + high * 2 ^ 15
code_of Ecall = 0x0000_0073
code_of Ebreak = 0x0010_0073

-- ---- back from a word

abbrev pub branch_op : ℕ → Option BranchOp
branch_op funct3 =
    if funct3 == 0b000 then Some Beq
    else if funct3 == 0b001 then Some Bne
    else if funct3 == 0b100 then Some Blt
    else if funct3 == 0b101 then Some Bge
    else if funct3 == 0b110 then Some Bltu
    else if funct3 == 0b111 then Some Bgeu
    else None

abbrev pub load_op : ℕ → Option LoadOp
load_op funct3 =
    if funct3 == 0b000 then Some Lb
    else if funct3 == 0b001 then Some Lh
    else if funct3 == 0b010 then Some Lw
    else if funct3 == 0b100 then Some Lbu
    else if funct3 == 0b101 then Some Lhu
    else None

abbrev pub store_op : ℕ → Option StoreOp
store_op funct3 =
    if funct3 == 0b000 then Some Sb
    else if funct3 == 0b001 then Some Sh
    else if funct3 == 0b010 then Some Sw
    else None

-- with funct7 0000000
abbrev pub plain_op : ℕ → Option AluOp
plain_op funct3 =
    if funct3 == 0b000 then Some Add
    else if funct3 == 0b001 then Some Sll
    else if funct3 == 0b010 then Some Slt
    else if funct3 == 0b011 then Some Sltu
    else if funct3 == 0b100 then Some Xor
    else if funct3 == 0b101 then Some Srl
    else if funct3 == 0b110 then Some Or
    else if funct3 == 0b111 then Some And
    else None

-- with funct7 0100000
abbrev pub other_op : ℕ → Option AluOp
other_op funct3 =
    if funct3 == 0b000 then Some Sub
    else if funct3 == 0b101 then Some Sra
    else None

abbrev pub alu_op : ℕ → ℕ → Option AluOp
alu_op funct3 funct7 =
    if funct7 == 0b0000000 then plain_op funct3
    else if funct7 == 0b0100000 then other_op funct3
    else None

-- only a shift has a funct7
abbrev pub alu_imm_op : ℕ → ℕ → Option AluOp
alu_imm_op funct3 funct7 =
    if funct3 == 0b001 then alu_op funct3 funct7
    else if funct3 == 0b101 then alu_op funct3 funct7
    else plain_op funct3

abbrev pub alu_immediate : AluOp → ℕ → ℤ
alu_immediate op word = if is_shift op then pos (rs2_in word) else i_immediate word

-- ---- by opcode

abbrev pub jalr_of : ℕ → Option Instr
jalr_of word =
    if funct3_in word == 0b000 then Some (Jalr (rd_in word) (rs1_in word) (i_immediate word)) else None

abbrev pub branch_of : ℕ → Option Instr
branch_of word =
    option_map (λ op. Branch op (rs1_in word) (rs2_in word) (b_immediate word)) (branch_op (funct3_in word))

abbrev pub load_of : ℕ → Option Instr
load_of word = option_map (λ op. Load op (rd_in word) (rs1_in word) (i_immediate word)) (load_op (funct3_in word))

abbrev pub store_of : ℕ → Option Instr
store_of word = option_map (λ op. Store op (rs1_in word) (rs2_in word) (s_immediate word)) (store_op (funct3_in word))

abbrev pub op_imm_of : ℕ → Option Instr
op_imm_of word =
    option_map
    (λ op. OpImm op (rd_in word) (rs1_in word) (alu_immediate op word))
    (alu_imm_op (funct3_in word) (funct7_in word))

abbrev pub op_of : ℕ → Option Instr
op_of word =
    option_map (λ op. Op op (rd_in word) (rs1_in word) (rs2_in word)) (alu_op (funct3_in word) (funct7_in word))

abbrev pub fence_of : ℕ → Option Instr
fence_of word = if funct3_in word == 0b000 then Some (Fence (bits 15 17 word) (rd_in word)) else None

abbrev pub system_of : ℕ → Option Instr
system_of word =
    if word == 0x0000_0073 then Some Ecall
    else if word == 0x0010_0073 then Some Ebreak
    else None

-- the instruction of a word with this opcode
unfoldable pub decode_as : ℕ → ℕ → Option Instr
decode_as opcode word =
    if opcode == 0b0110111 then Some (Lui (rd_in word) (u_immediate word))
    else if opcode == 0b0010111 then Some (Auipc (rd_in word) (u_immediate word))
    else if opcode == 0b1101111 then Some (Jal (rd_in word) (j_immediate word))
    else if opcode == 0b1100111 then jalr_of word
    else if opcode == 0b1100011 then branch_of word
    else if opcode == 0b0000011 then load_of word
    else if opcode == 0b0100011 then store_of word
    else if opcode == 0b0010011 then op_imm_of word
    else if opcode == 0b0110011 then op_of word
    else if opcode == 0b0001111 then fence_of word
    else if opcode == 0b1110011 then system_of word
    else None

-- the instruction that a word codes, if it codes one
unfoldable pub decode_of : ℕ → Option Instr
decode_of word = decode_as (opcode_in word) word

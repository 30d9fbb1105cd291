-- The formats of an instruction word: each field times the power of two at which it stands, from bit 0 up.
use Rattle.std.specs.Prelude.{ℕ, ℤ, ◌+◌, ◌*◌, ◌^◌}
use Rattle.hb_asm.specs.Bits.{bits, sign_extend}

-- two source registers and a destination
abbrev pub r_word : (opcode rd funct3 rs1 rs2 funct7 : ℕ) → ℕ
r_word opcode rd funct3 rs1 rs2 funct7 =
    opcode + rd * 2 ^ 7 + funct3 * 2 ^ 12 + rs1 * 2 ^ 15 + rs2 * 2 ^ 20 + funct7 * 2 ^ 25

-- an immediate of 12 bits
abbrev pub i_word : (opcode rd funct3 rs1 imm : ℕ) → ℕ
i_word opcode rd funct3 rs1 imm = opcode + rd * 2 ^ 7 + funct3 * 2 ^ 12 + rs1 * 2 ^ 15 + imm * 2 ^ 20

-- an immediate of 12 bits: 4:0 stand where a destination would, 11:5 at the top
abbrev pub s_word : (opcode funct3 rs1 rs2 imm : ℕ) → ℕ
s_word opcode funct3 rs1 rs2 imm =
    opcode + bits 0 5 imm * 2 ^ 7 + funct3 * 2 ^ 12 + rs1 * 2 ^ 15 + rs2 * 2 ^ 20 + bits 5 7 imm * 2 ^ 25

-- an even offset of 13 bits: bit 11, then 4:1, and at the top 10:5 and bit 12
abbrev pub b_word : (opcode funct3 rs1 rs2 imm : ℕ) → ℕ
b_word opcode funct3 rs1 rs2 imm =
    opcode + bits 11 1 imm * 2 ^ 7 + bits 1 4 imm * 2 ^ 8 + funct3 * 2 ^ 12 + rs1 * 2 ^ 15 + rs2 * 2 ^ 20
    + bits 5 6 imm * 2 ^ 25 + bits 12 1 imm * 2 ^ 31

-- an immediate of 20 bits
abbrev pub u_word : (opcode rd imm : ℕ) → ℕ
u_word opcode rd imm = opcode + rd * 2 ^ 7 + imm * 2 ^ 12

-- an even offset of 21 bits: 19:12, bit 11, 10:1 and bit 20
abbrev pub j_word : (opcode rd imm : ℕ) → ℕ
j_word opcode rd imm =
    opcode + rd * 2 ^ 7 + bits 12 8 imm * 2 ^ 12 + bits 11 1 imm * 2 ^ 20 + bits 1 10 imm * 2 ^ 21
    + bits 20 1 imm * 2 ^ 31

-- ---- the fields of a word

abbrev pub opcode_in : ℕ → ℕ
opcode_in word = bits 0 7 word

abbrev pub rd_in : ℕ → ℕ
rd_in word = bits 7 5 word

abbrev pub funct3_in : ℕ → ℕ
funct3_in word = bits 12 3 word

abbrev pub rs1_in : ℕ → ℕ
rs1_in word = bits 15 5 word

abbrev pub rs2_in : ℕ → ℕ
rs2_in word = bits 20 5 word

abbrev pub funct7_in : ℕ → ℕ
funct7_in word = bits 25 7 word

-- ---- its immediate, by format: the same bits, put together and extended by their sign

abbrev pub i_immediate : ℕ → ℤ
i_immediate word = sign_extend 12 (bits 20 12 word)

abbrev pub s_immediate : ℕ → ℤ
s_immediate word = sign_extend 12 (bits 7 5 word + bits 25 7 word * 2 ^ 5)

abbrev pub b_immediate : ℕ → ℤ
b_immediate word =
    sign_extend 13 (bits 8 4 word * 2 + bits 25 6 word * 2 ^ 5 + bits 7 1 word * 2 ^ 11 + bits 31 1 word * 2 ^ 12)

abbrev pub u_immediate : ℕ → ℕ
u_immediate word = bits 12 20 word

abbrev pub j_immediate : ℕ → ℤ
j_immediate word =
    sign_extend 21 (bits 21 10 word * 2 + bits 20 1 word * 2 ^ 11 + bits 12 8 word * 2 ^ 12 + bits 31 1 word * 2 ^ 20)

-- Coding and decoding are each other's inverse on instructions whose fields are in range.
use Rattle.std.proofs.Common.{◌≡◌, ℕ, ℤ, pos, negsuc, ◌<◌, ◌^◌, refl, subst, arith, Some}
use Rattle.std.specs.Prelude.{IfSome}
use Rattle.std.proofs.lemmas.Int.{ints}
use Rattle.hb_asm.specs.declared.instr.AluOp.{AluOp}
use Rattle.hb_asm.specs.declared.instr.AluOp.TheVariants.{Add, Sub, Sll, Slt, Sltu, Xor, Srl, Sra, Or, And}
use Rattle.hb_asm.specs.declared.instr.Instr.{Instr}
use Rattle.hb_asm.specs.declared.instr.Instr.TheVariants.{
  Lui,
  Auipc,
  Jal,
  Jalr,
  Branch,
  Load,
  Store,
  OpImm,
  Op,
  Fence,
  Ecall,
  Ebreak,
}
use Rattle.hb_asm.specs.Bits.{to_bits}
use Rattle.hb_asm.specs.Formats.{r_word, i_word}
use Rattle.hb_asm.specs.Coding.{alu_funct3, alu_funct7, op_imm_word, code_of, decode_as, decode_of}
use Rattle.hb_asm.specs.InRange.{InRange, IsImmediate, IsAluImmediate}
use Rattle.hb_asm.proofs.FieldLemmas.{to_bits_12_fits, to_bits_13_fits, to_bits_21_fits}
use Rattle.hb_asm.proofs.InstrBack.{
  lui_back,
  auipc_back,
  jal_back,
  jalr_back,
  branch_back,
  load_back,
  store_back,
  op_back,
  op_imm_back,
  fence_back,
  branch_funct3_fits,
  load_funct3_fits,
  store_funct3_fits,
  alu_codes_fit,
}
use Rattle.hb_asm.proofs.WordReads.{decode_reads}

-- an operation with an immediate of 12 bits, and a shift by a constant
plain_fits :
    (op : AluOp) (rd rs1 : ℕ) (imm : ℤ)
    → rd < 32
    → rs1 < 32
    → IsImmediate imm
    → i_word 0b0010011 rd (alu_funct3 op) rs1 (to_bits 12 imm) < 2 ^ 32
plain_fits op rd rs1 imm a b c = omega (arith, alu_codes_fit op, to_bits_12_fits imm c)

shift_fits :
    (op : AluOp) (rd rs1 n : ℕ)
    → rd < 32
    → rs1 < 32
    → n < 32
    → r_word 0b0010011 rd (alu_funct3 op) rs1 n (alu_funct7 op) < 2 ^ 32
shift_fits op rd rs1 n a b c = omega (arith, alu_codes_fit op)

op_imm_fits :
    (op : AluOp) (rd rs1 : ℕ) (imm : ℤ)
    → rd < 32
    → rs1 < 32
    → IsAluImmediate op imm
    → op_imm_word op rd rs1 imm < 2 ^ 32
op_imm_fits Add rd rs1 imm a b h = plain_fits Add rd rs1 imm a b h
op_imm_fits Sub rd rs1 imm a b h = absurd h
op_imm_fits Sll rd rs1 (pos n) a b h = shift_fits Sll rd rs1 n a b (omega (arith, ints))
op_imm_fits Sll rd rs1 (negsuc n) a b h = absurd (omega (arith, ints))
op_imm_fits Slt rd rs1 imm a b h = plain_fits Slt rd rs1 imm a b h
op_imm_fits Sltu rd rs1 imm a b h = plain_fits Sltu rd rs1 imm a b h
op_imm_fits Xor rd rs1 imm a b h = plain_fits Xor rd rs1 imm a b h
op_imm_fits Srl rd rs1 (pos n) a b h = shift_fits Srl rd rs1 n a b (omega (arith, ints))
op_imm_fits Srl rd rs1 (negsuc n) a b h = absurd (omega (arith, ints))
op_imm_fits Sra rd rs1 (pos n) a b h = shift_fits Sra rd rs1 n a b (omega (arith, ints))
op_imm_fits Sra rd rs1 (negsuc n) a b h = absurd (omega (arith, ints))
op_imm_fits Or rd rs1 imm a b h = plain_fits Or rd rs1 imm a b h
op_imm_fits And rd rs1 imm a b h = plain_fits And rd rs1 imm a b h

-- an instruction is one word of 32 bits
pub code_of-fits : (i : Instr) → InRange i → code_of i < 2 ^ 32
unfolding code_of
code_of-fits (Lui rd imm) h = omega arith
code_of-fits (Auipc rd imm) h = omega arith
code_of-fits (Jal rd imm) h = omega (arith, to_bits_21_fits imm h.1)
code_of-fits (Jalr rd rs1 imm) h = omega (arith, to_bits_12_fits imm h.2)
code_of-fits (Branch op rs1 rs2 imm) h = omega (arith, branch_funct3_fits op, to_bits_13_fits imm h.2)
code_of-fits (Load op rd rs1 imm) h = omega (arith, load_funct3_fits op, to_bits_12_fits imm h.2)
code_of-fits (Store op rs1 rs2 imm) h = omega (arith, store_funct3_fits op, to_bits_12_fits imm h.2)
code_of-fits (OpImm op rd rs1 imm) h = op_imm_fits op rd rs1 imm h.0 h.1 h.2
code_of-fits (Op op rd rs1 rs2) h = omega (arith, alu_codes_fit op)
code_of-fits (Fence high rd) h = omega arith
code_of-fits Ecall h = omega arith
code_of-fits Ebreak h = omega arith

-- an instruction whose fields are in range comes back from its word
pub decode-code : (i : Instr) → InRange i → decode_of (code_of i) ≡ Some i
unfolding code_of decode_of decode_as
decode-code (Lui rd imm) h = lui_back rd imm h.0 h.1
decode-code (Auipc rd imm) h = auipc_back rd imm h.0 h.1
decode-code (Jal rd imm) h = jal_back rd imm h
decode-code (Jalr rd rs1 imm) h = jalr_back rd rs1 imm h
decode-code (Branch op rs1 rs2 imm) h = branch_back op rs1 rs2 imm h
decode-code (Load op rd rs1 imm) h = load_back op rd rs1 imm h
decode-code (Store op rs1 rs2 imm) h = store_back op rs1 rs2 imm h
decode-code (OpImm op rd rs1 imm) h = op_imm_back op rd rs1 imm h
decode-code (Op op rd rs1 rs2) h = op_back op rd rs1 rs2 h
decode-code (Fence high rd) h = fence_back high rd h
decode-code Ecall h = refl
decode-code Ebreak h = refl

-- a word that decodes is coded by what it decodes to, whose fields are in range
pub code-decode : (w : ℕ) (i : Instr) → w < 2 ^ 32 → decode_of w ≡ Some i → InRange i × (code_of i ≡ w)
code-decode w i h e = subst (λ o. IfSome o (λ j. InRange j × (code_of j ≡ w))) e (decode_reads w h)

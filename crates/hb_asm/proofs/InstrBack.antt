-- Form by form: an instruction whose fields are in range comes back from its word.
use Rattle.std.proofs.Common.{◌≡◌, ℕ, ℤ, pos, negsuc, ◌+◌, ◌*◌, ◌<◌, ◌^◌, ◌==◌, true, false, cond, refl, ap, ◌∙◌, arith, Some, None}
use Rattle.std.specs.Prelude.{option_map}
use Rattle.std.proofs.lemmas.Int.{ints}
use Rattle.hb_asm.specs.declared.instr.AluOp.{AluOp}
use Rattle.hb_asm.specs.declared.instr.AluOp.TheVariants.{Add, Sub, Sll, Slt, Sltu, Xor, Srl, Sra, Or, And}
use Rattle.hb_asm.specs.declared.instr.BranchOp.{BranchOp}
use Rattle.hb_asm.specs.declared.instr.BranchOp.TheVariants.{Beq, Bne, Blt, Bge, Bltu, Bgeu}
use Rattle.hb_asm.specs.declared.instr.LoadOp.{LoadOp}
use Rattle.hb_asm.specs.declared.instr.LoadOp.TheVariants.{Lb, Lh, Lw, Lbu, Lhu}
use Rattle.hb_asm.specs.declared.instr.StoreOp.{StoreOp}
use Rattle.hb_asm.specs.declared.instr.StoreOp.TheVariants.{Sb, Sh, Sw}
use Rattle.hb_asm.specs.declared.instr.Instr.TheVariants.{Lui, Auipc, Jal, Jalr, Branch, Load, Store, OpImm, Op, Fence}
use Rattle.hb_asm.specs.Bits.{bits, to_bits, sign_extend}
use Rattle.hb_asm.specs.Formats.{
  r_word,
  i_word,
  s_word,
  b_word,
  u_word,
  j_word,
  opcode_in,
  rd_in,
  funct3_in,
  rs1_in,
  rs2_in,
  funct7_in,
  i_immediate,
  s_immediate,
  b_immediate,
  u_immediate,
  j_immediate,
}
use Rattle.hb_asm.specs.Coding.{branch_funct3, load_funct3, store_funct3, alu_funct3, alu_funct7, is_shift, code_of, branch_op, load_op, store_op, alu_op, alu_imm_op, alu_immediate, decode_as, decode_of}
use Rattle.hb_asm.specs.InRange.{InRange, IsImmediate}
use Rattle.hb_asm.proofs.FieldLemmas.{to_bits_12_fits, to_bits_13_fits, to_bits_21_fits, sign_extend-to_bits_12, sign_extend-to_bits_13, sign_extend-to_bits_21, u_word_fields, r_word_fields, i_word_fields, s_word_fields, b_word_fields, j_word_fields}

-- ---- what `decode_as` gives at each opcode

decode_at : (opcode word : ℕ) → opcode_in word ≡ opcode → decode_of word ≡ decode_as opcode word
unfolding decode_of
decode_at opcode word e = ap (λ o. decode_as o word) e

as_lui : (word : ℕ) → decode_as 0b0110111 word ≡ Some (Lui (rd_in word) (u_immediate word))
unfolding decode_as
as_lui word = refl

as_auipc : (word : ℕ) → decode_as 0b0010111 word ≡ Some (Auipc (rd_in word) (u_immediate word))
unfolding decode_as
as_auipc word = refl

as_jal : (word : ℕ) → decode_as 0b1101111 word ≡ Some (Jal (rd_in word) (j_immediate word))
unfolding decode_as
as_jal word = refl

as_jalr :
    (word : ℕ) → funct3_in word ≡ 0 → decode_as 0b1100111 word ≡ Some (Jalr (rd_in word) (rs1_in word) (i_immediate word))
unfolding decode_as
as_jalr word e =
    ap (λ f. cond (f == 0) (Some (Jalr (rd_in word) (rs1_in word) (i_immediate word))) None) e

as_branch :
    (word : ℕ) (op : BranchOp)
    → branch_op (funct3_in word) ≡ Some op
    → decode_as 0b1100011 word ≡ Some (Branch op (rs1_in word) (rs2_in word) (b_immediate word))
unfolding decode_as
as_branch word op e = ap (option_map (λ o. Branch o (rs1_in word) (rs2_in word) (b_immediate word))) e

as_load :
    (word : ℕ) (op : LoadOp)
    → load_op (funct3_in word) ≡ Some op
    → decode_as 0b0000011 word ≡ Some (Load op (rd_in word) (rs1_in word) (i_immediate word))
unfolding decode_as
as_load word op e = ap (option_map (λ o. Load o (rd_in word) (rs1_in word) (i_immediate word))) e

as_store :
    (word : ℕ) (op : StoreOp)
    → store_op (funct3_in word) ≡ Some op
    → decode_as 0b0100011 word ≡ Some (Store op (rs1_in word) (rs2_in word) (s_immediate word))
unfolding decode_as
as_store word op e = ap (option_map (λ o. Store o (rs1_in word) (rs2_in word) (s_immediate word))) e

as_op_imm :
    (word : ℕ) (op : AluOp)
    → alu_imm_op (funct3_in word) (funct7_in word) ≡ Some op
    → decode_as 0b0010011 word ≡ Some (OpImm op (rd_in word) (rs1_in word) (alu_immediate op word))
unfolding decode_as
as_op_imm word op e = ap (option_map (λ o. OpImm o (rd_in word) (rs1_in word) (alu_immediate o word))) e

as_op :
    (word : ℕ) (op : AluOp)
    → alu_op (funct3_in word) (funct7_in word) ≡ Some op
    → decode_as 0b0110011 word ≡ Some (Op op (rd_in word) (rs1_in word) (rs2_in word))
unfolding decode_as
as_op word op e = ap (option_map (λ o. Op o (rd_in word) (rs1_in word) (rs2_in word))) e

as_fence :
    (word : ℕ) → funct3_in word ≡ 0 → decode_as 0b0001111 word ≡ Some (Fence (bits 15 17 word) (rd_in word))
unfolding decode_as
as_fence word e = ap (λ f. cond (f == 0) (Some (Fence (bits 15 17 word) (rd_in word))) None) e

-- ---- function codes

pub branch_funct3_fits : (op : BranchOp) → (branch_funct3 op < 8) × (branch_op (branch_funct3 op) ≡ Some op)
branch_funct3_fits Beq = (omega arith, refl)
branch_funct3_fits Bne = (omega arith, refl)
branch_funct3_fits Blt = (omega arith, refl)
branch_funct3_fits Bge = (omega arith, refl)
branch_funct3_fits Bltu = (omega arith, refl)
branch_funct3_fits Bgeu = (omega arith, refl)

pub load_funct3_fits : (op : LoadOp) → (load_funct3 op < 8) × (load_op (load_funct3 op) ≡ Some op)
load_funct3_fits Lb = (omega arith, refl)
load_funct3_fits Lh = (omega arith, refl)
load_funct3_fits Lw = (omega arith, refl)
load_funct3_fits Lbu = (omega arith, refl)
load_funct3_fits Lhu = (omega arith, refl)

pub store_funct3_fits : (op : StoreOp) → (store_funct3 op < 8) × (store_op (store_funct3 op) ≡ Some op)
store_funct3_fits Sb = (omega arith, refl)
store_funct3_fits Sh = (omega arith, refl)
store_funct3_fits Sw = (omega arith, refl)

pub alu_codes_fit :
    (op : AluOp)
    → (alu_funct3 op < 8)
    × (alu_funct7 op < 128)
    × (alu_op (alu_funct3 op) (alu_funct7 op) ≡ Some op)
alu_codes_fit Add = (omega arith, omega arith, refl)
alu_codes_fit Sub = (omega arith, omega arith, refl)
alu_codes_fit Sll = (omega arith, omega arith, refl)
alu_codes_fit Slt = (omega arith, omega arith, refl)
alu_codes_fit Sltu = (omega arith, omega arith, refl)
alu_codes_fit Xor = (omega arith, omega arith, refl)
alu_codes_fit Srl = (omega arith, omega arith, refl)
alu_codes_fit Sra = (omega arith, omega arith, refl)
alu_codes_fit Or = (omega arith, omega arith, refl)
alu_codes_fit And = (omega arith, omega arith, refl)

-- ---- the word of an instruction gives it back

pub lui_back : (rd imm : ℕ) → rd < 32 → imm < 2 ^ 20 → decode_of (u_word 0b0110111 rd imm) ≡ Some (Lui rd imm)
lui_back rd imm a b =
    let w : ℕ = u_word 0b0110111 rd imm in
    let e = u_word_fields 0b0110111 rd imm (omega arith) a b in
    decode_at 0b0110111 w e.0 ∙ (as_lui w ∙ (cc))

pub auipc_back : (rd imm : ℕ) → rd < 32 → imm < 2 ^ 20 → decode_of (u_word 0b0010111 rd imm) ≡ Some (Auipc rd imm)
auipc_back rd imm a b =
    let w : ℕ = u_word 0b0010111 rd imm in
    let e = u_word_fields 0b0010111 rd imm (omega arith) a b in
    decode_at 0b0010111 w e.0 ∙ (as_auipc w ∙ (cc))

pub jal_back : (rd : ℕ) (imm : ℤ) → InRange (Jal rd imm) → decode_of (code_of (Jal rd imm)) ≡ Some (Jal rd imm)
unfolding code_of
jal_back rd imm h =
    let fits = to_bits_21_fits imm h.1 in
    let w : ℕ = j_word 0b1101111 rd (to_bits 21 imm) in
    let e = j_word_fields 0b1101111 rd (to_bits 21 imm) (omega arith) h.0 fits.0 fits.1 in
    let signed : j_immediate w ≡ imm = ap (sign_extend 21) e.2 ∙ sign_extend-to_bits_21 imm h.1 in
    decode_at 0b1101111 w e.0 ∙ (as_jal w ∙ (cc))

pub jalr_back :
    (rd rs1 : ℕ) (imm : ℤ) → InRange (Jalr rd rs1 imm) → decode_of (code_of (Jalr rd rs1 imm)) ≡ Some (Jalr rd rs1 imm)
unfolding code_of
jalr_back rd rs1 imm h =
    let w : ℕ = i_word 0b1100111 rd 0 rs1 (to_bits 12 imm) in
    let e =
    i_word_fields 0b1100111 rd 0 rs1 (to_bits 12 imm) (omega arith) h.0 (omega arith) h.1 (to_bits_12_fits imm h.2) in
    let signed : i_immediate w ≡ imm = ap (sign_extend 12) e.4 ∙ sign_extend-to_bits_12 imm h.2 in
    decode_at 0b1100111 w e.0 ∙ (as_jalr w e.2 ∙ (cc))

pub branch_back :
    (op : BranchOp) (rs1 rs2 : ℕ) (imm : ℤ)
    → InRange (Branch op rs1 rs2 imm)
    → decode_of (code_of (Branch op rs1 rs2 imm)) ≡ Some (Branch op rs1 rs2 imm)
unfolding code_of
branch_back op rs1 rs2 imm h =
    let fits = to_bits_13_fits imm h.2 in
    let f : ℕ = branch_funct3 op in
    let w : ℕ = b_word 0b1100011 f rs1 rs2 (to_bits 13 imm) in
    let code = branch_funct3_fits op in
    let e = b_word_fields 0b1100011 f rs1 rs2 (to_bits 13 imm) (omega arith) code.0 h.0 h.1 fits.0 fits.1 in
    let signed : b_immediate w ≡ imm = ap (sign_extend 13) e.4 ∙ sign_extend-to_bits_13 imm h.2 in
    decode_at 0b1100011 w e.0 ∙ (as_branch w op (ap branch_op e.1 ∙ code.1) ∙ (cc))

pub load_back :
    (op : LoadOp) (rd rs1 : ℕ) (imm : ℤ)
    → InRange (Load op rd rs1 imm)
    → decode_of (code_of (Load op rd rs1 imm)) ≡ Some (Load op rd rs1 imm)
unfolding code_of
load_back op rd rs1 imm h =
    let f : ℕ = load_funct3 op in
    let w : ℕ = i_word 0b0000011 rd f rs1 (to_bits 12 imm) in
    let code = load_funct3_fits op in
    let e = i_word_fields 0b0000011 rd f rs1 (to_bits 12 imm) (omega arith) h.0 code.0 h.1 (to_bits_12_fits imm h.2) in
    let signed : i_immediate w ≡ imm = ap (sign_extend 12) e.4 ∙ sign_extend-to_bits_12 imm h.2 in
    decode_at 0b0000011 w e.0 ∙ (as_load w op (ap load_op e.2 ∙ code.1) ∙ (cc))

pub store_back :
    (op : StoreOp) (rs1 rs2 : ℕ) (imm : ℤ)
    → InRange (Store op rs1 rs2 imm)
    → decode_of (code_of (Store op rs1 rs2 imm)) ≡ Some (Store op rs1 rs2 imm)
unfolding code_of
store_back op rs1 rs2 imm h =
    let f : ℕ = store_funct3 op in
    let w : ℕ = s_word 0b0100011 f rs1 rs2 (to_bits 12 imm) in
    let code = store_funct3_fits op in
    let e = s_word_fields 0b0100011 f rs1 rs2 (to_bits 12 imm) (omega arith) code.0 h.0 h.1 (to_bits_12_fits imm h.2) in
    let signed : s_immediate w ≡ imm = ap (sign_extend 12) e.4 ∙ sign_extend-to_bits_12 imm h.2 in
    decode_at 0b0100011 w e.0 ∙ (as_store w op (ap store_op e.1 ∙ code.1) ∙ (cc))

pub op_back :
    (op : AluOp) (rd rs1 rs2 : ℕ)
    → InRange (Op op rd rs1 rs2)
    → decode_of (code_of (Op op rd rs1 rs2)) ≡ Some (Op op rd rs1 rs2)
unfolding code_of
op_back op rd rs1 rs2 h =
    let f : ℕ = alu_funct3 op in
    let g : ℕ = alu_funct7 op in
    let w : ℕ = r_word 0b0110011 rd f rs1 rs2 g in
    let code = alu_codes_fit op in
    let e = r_word_fields 0b0110011 rd f rs1 rs2 g (omega arith) h.0 code.0 h.1 h.2 code.1 in
    let found : alu_op (funct3_in w) (funct7_in w) ≡ Some op =
    ap (λ x. alu_op x (funct7_in w)) e.2 ∙ (ap (alu_op f) e.5 ∙ code.2) in
    decode_at 0b0110011 w e.0 ∙ (as_op w op found ∙ (cc))

-- an operation with an immediate of 12 bits
plain_back :
    (op : AluOp) (rd rs1 : ℕ) (imm : ℤ)
    → is_shift op ≡ false
    → ((g : ℕ) → alu_imm_op (alu_funct3 op) g ≡ Some op)
    → rd < 32
    → rs1 < 32
    → IsImmediate imm
    → decode_of (i_word 0b0010011 rd (alu_funct3 op) rs1 (to_bits 12 imm)) ≡ Some (OpImm op rd rs1 imm)
plain_back op rd rs1 imm plain found a b fits =
    let f : ℕ = alu_funct3 op in
    let w : ℕ = i_word 0b0010011 rd f rs1 (to_bits 12 imm) in
    let e =
    i_word_fields
    0b0010011
    rd
    f
    rs1
    (to_bits 12 imm)
    (omega arith)
    a
    ((alu_codes_fit op).0)
    b
    (to_bits_12_fits imm fits) in
    let signed : alu_immediate op w ≡ imm =
    ap (λ t. cond t (pos (rs2_in w)) (i_immediate w)) plain
    ∙ (ap (sign_extend 12) e.4 ∙ sign_extend-to_bits_12 imm fits) in
    decode_at 0b0010011 w e.0
    ∙ (as_op_imm w op (ap (λ x. alu_imm_op x (funct7_in w)) e.2 ∙ found (funct7_in w)) ∙ (cc))

-- a shift by a constant
shift_back :
    (op : AluOp) (rd rs1 n : ℕ)
    → is_shift op ≡ true
    → alu_imm_op (alu_funct3 op) (alu_funct7 op) ≡ Some op
    → rd < 32
    → rs1 < 32
    → n < 32
    → decode_of (r_word 0b0010011 rd (alu_funct3 op) rs1 n (alu_funct7 op)) ≡ Some (OpImm op rd rs1 (pos n))
shift_back op rd rs1 n shifts found a b c =
    let f : ℕ = alu_funct3 op in
    let g : ℕ = alu_funct7 op in
    let w : ℕ = r_word 0b0010011 rd f rs1 n g in
    let code = alu_codes_fit op in
    let e = r_word_fields 0b0010011 rd f rs1 n g (omega arith) a code.0 b c code.1 in
    let amount : alu_immediate op w ≡ pos n =
    ap (λ t. cond t (pos (rs2_in w)) (i_immediate w)) shifts ∙ ap pos e.4 in
    let same : alu_imm_op (funct3_in w) (funct7_in w) ≡ Some op =
    ap (λ x. alu_imm_op x (funct7_in w)) e.2 ∙ (ap (alu_imm_op f) e.5 ∙ found) in
    decode_at 0b0010011 w e.0 ∙ (as_op_imm w op same ∙ (cc))

pub op_imm_back :
    (op : AluOp) (rd rs1 : ℕ) (imm : ℤ)
    → InRange (OpImm op rd rs1 imm)
    → decode_of (code_of (OpImm op rd rs1 imm)) ≡ Some (OpImm op rd rs1 imm)
unfolding code_of
op_imm_back Add rd rs1 imm h = plain_back Add rd rs1 imm refl (λ g. refl) h.0 h.1 h.2
op_imm_back Sub rd rs1 imm h = absurd h.2
op_imm_back Sll rd rs1 (pos n) h = shift_back Sll rd rs1 n refl refl h.0 h.1 (omega (arith, ints))
op_imm_back Sll rd rs1 (negsuc n) h = absurd (omega (arith, ints))
op_imm_back Slt rd rs1 imm h = plain_back Slt rd rs1 imm refl (λ g. refl) h.0 h.1 h.2
op_imm_back Sltu rd rs1 imm h = plain_back Sltu rd rs1 imm refl (λ g. refl) h.0 h.1 h.2
op_imm_back Xor rd rs1 imm h = plain_back Xor rd rs1 imm refl (λ g. refl) h.0 h.1 h.2
op_imm_back Srl rd rs1 (pos n) h = shift_back Srl rd rs1 n refl refl h.0 h.1 (omega (arith, ints))
op_imm_back Srl rd rs1 (negsuc n) h = absurd (omega (arith, ints))
op_imm_back Sra rd rs1 (pos n) h = shift_back Sra rd rs1 n refl refl h.0 h.1 (omega (arith, ints))
op_imm_back Sra rd rs1 (negsuc n) h = absurd (omega (arith, ints))
op_imm_back Or rd rs1 imm h = plain_back Or rd rs1 imm refl (λ g. refl) h.0 h.1 h.2
op_imm_back And rd rs1 imm h = plain_back And rd rs1 imm refl (λ g. refl) h.0 h.1 h.2

pub fence_back :
    (high rd : ℕ) → InRange (Fence high rd) → decode_of (code_of (Fence high rd)) ≡ Some (Fence high rd)
unfolding code_of
fence_back high rd h =
    let w : ℕ = 0b0001111 + rd * 2 ^ 7 + 0 * 2 ^ 12 + high * 2 ^ 15 in
    let opcode : opcode_in w ≡ 0b0001111 = omega arith in
    let zero : funct3_in w ≡ 0 = omega arith in
    let e0 : bits 15 17 w ≡ high = omega arith in
    let e1 : rd_in w ≡ rd = omega arith in
    decode_at 0b0001111 w opcode ∙ (as_fence w zero ∙ (cc))

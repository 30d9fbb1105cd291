-- What is decoded from a word has fields in range, and is coded by that word.
use Rattle.std.proofs.Common.{◌≡◌, ℕ, pos, ◌+◌, ◌*◌, ◌<◌, ◌^◌, ◌==◌, cond, refl, sym, subst, arith, Option, Some, None}
use Rattle.std.specs.Prelude.{IfSome, option_map}
use Rattle.std.proofs.lemmas.Bool.{cond_both, eqb-true, both_ways}
use Rattle.std.proofs.lemmas.Int.{ints}
use Rattle.std.proofs.lemmas.Option.{IfSome_then}
use Rattle.hb_asm.specs.declared.instr.AluOp.{AluOp}
use Rattle.hb_asm.specs.declared.instr.AluOp.TheVariants.{Add, Sub, Sll, Slt, Sltu, Xor, Srl, Sra, Or, And}
use Rattle.hb_asm.specs.declared.instr.BranchOp.{BranchOp}
use Rattle.hb_asm.specs.declared.instr.LoadOp.{LoadOp}
use Rattle.hb_asm.specs.declared.instr.StoreOp.{StoreOp}
use Rattle.hb_asm.specs.declared.instr.Instr.{Instr}
use Rattle.hb_asm.specs.declared.instr.Instr.TheVariants.{Lui, Auipc, Jal, Jalr, Branch, Load, Store, OpImm, Op, Fence}
use Rattle.hb_asm.specs.Bits.{bits, to_bits}
use Rattle.hb_asm.specs.Formats.{r_word, i_word, opcode_in, rd_in, funct3_in, rs1_in, rs2_in, funct7_in, i_immediate, s_immediate, b_immediate, u_immediate, j_immediate}
use Rattle.hb_asm.specs.Coding.{branch_funct3, load_funct3, store_funct3, alu_funct3, alu_funct7, is_shift, code_of, branch_op, load_op, store_op, alu_op, alu_imm_op, alu_immediate, system_of, decode_as, decode_of}
use Rattle.hb_asm.specs.InRange.{InRange, IsRegister, IsImmediate, IsBetween}
use Rattle.hb_asm.proofs.FieldLemmas.{sign_extend_12_fits, sign_extend_13_fits, sign_extend_21_fits, u_word_whole, r_word_whole, i_word_whole, s_word_whole, b_word_whole, j_word_whole}

-- ---- what is decoded from a word has that word

-- the fields are in range, and they code the word
abbrev Codes : ℕ → Instr → Type 0
Codes w i = InRange i × (code_of i ≡ w)

IfSome-option_map :
    {A B : Type 0} (f : A → B) (o : Option A) (P : B → Type 0) → IfSome o (λ a. P (f a)) → IfSome (option_map f o) P
IfSome-option_map f None P h = h
IfSome-option_map f (Some a) P h = h

branch_op_reads : (f : ℕ) → IfSome (branch_op f) (λ op. branch_funct3 op ≡ f)
branch_op_reads f =
    let P : Option BranchOp → Type 0 = λ o. IfSome o (λ op. branch_funct3 op ≡ f) in
    cond_both (f == 0) _ _ P (λ t. sym (eqb-true f 0 t)) (λ _.
    cond_both (f == 1) _ _ P (λ t. sym (eqb-true f 1 t)) (λ _.
    cond_both (f == 4) _ _ P (λ t. sym (eqb-true f 4 t)) (λ _.
    cond_both (f == 5) _ _ P (λ t. sym (eqb-true f 5 t)) (λ _.
    cond_both (f == 6) _ _ P (λ t. sym (eqb-true f 6 t)) (λ _.
    cond_both (f == 7) _ _ P (λ t. sym (eqb-true f 7 t)) (λ _. tt))))))

load_op_reads : (f : ℕ) → IfSome (load_op f) (λ op. load_funct3 op ≡ f)
load_op_reads f =
    let P : Option LoadOp → Type 0 = λ o. IfSome o (λ op. load_funct3 op ≡ f) in
    cond_both (f == 0) _ _ P (λ t. sym (eqb-true f 0 t)) (λ _.
    cond_both (f == 1) _ _ P (λ t. sym (eqb-true f 1 t)) (λ _.
    cond_both (f == 2) _ _ P (λ t. sym (eqb-true f 2 t)) (λ _.
    cond_both (f == 4) _ _ P (λ t. sym (eqb-true f 4 t)) (λ _.
    cond_both (f == 5) _ _ P (λ t. sym (eqb-true f 5 t)) (λ _. tt)))))

store_op_reads : (f : ℕ) → IfSome (store_op f) (λ op. store_funct3 op ≡ f)
store_op_reads f =
    let P : Option StoreOp → Type 0 = λ o. IfSome o (λ op. store_funct3 op ≡ f) in
    cond_both (f == 0) _ _ P (λ t. sym (eqb-true f 0 t)) (λ _.
    cond_both (f == 1) _ _ P (λ t. sym (eqb-true f 1 t)) (λ _.
    cond_both (f == 2) _ _ P (λ t. sym (eqb-true f 2 t)) (λ _. tt)))

alu_op_reads : (f g : ℕ) → IfSome (alu_op f g) (λ op. (alu_funct3 op ≡ f) × (alu_funct7 op ≡ g))
alu_op_reads f g =
    let P : Option AluOp → Type 0 = λ o. IfSome o (λ op. (alu_funct3 op ≡ f) × (alu_funct7 op ≡ g)) in
    cond_both (g == 0) _ _ P
    (λ s.
    let e = sym (eqb-true g 0 s) in
    cond_both (f == 0) _ _ P (λ t. (sym (eqb-true f 0 t), e)) (λ _.
    cond_both (f == 1) _ _ P (λ t. (sym (eqb-true f 1 t), e)) (λ _.
    cond_both (f == 2) _ _ P (λ t. (sym (eqb-true f 2 t), e)) (λ _.
    cond_both (f == 3) _ _ P (λ t. (sym (eqb-true f 3 t), e)) (λ _.
    cond_both (f == 4) _ _ P (λ t. (sym (eqb-true f 4 t), e)) (λ _.
    cond_both (f == 5) _ _ P (λ t. (sym (eqb-true f 5 t), e)) (λ _.
    cond_both (f == 6) _ _ P (λ t. (sym (eqb-true f 6 t), e)) (λ _.
    cond_both (f == 7) _ _ P (λ t. (sym (eqb-true f 7 t), e)) (λ _. tt)))))))))
    (λ _.
    cond_both (g == 32) _ _ P
    (λ s.
    let e = sym (eqb-true g 32 s) in
    cond_both (f == 0) _ _ P (λ t. (sym (eqb-true f 0 t), e)) (λ _.
    cond_both (f == 5) _ _ P (λ t. (sym (eqb-true f 5 t), e)) (λ _. tt)))
    (λ _. tt))

-- an operation with an immediate has its funct3, is no SUB, and has its funct7 where it is a shift
abbrev ImmediateCodes : ℕ → ℕ → AluOp → Type 0
ImmediateCodes f g op = (alu_funct3 op ≡ f) × (cond (is_shift op) (alu_funct7 op) g ≡ g) × (op ≡ Sub → ⊥)

alu_imm_op_reads : (f g : ℕ) → IfSome (alu_imm_op f g) (ImmediateCodes f g)
alu_imm_op_reads f g =
    let P : Option AluOp → Type 0 = λ o. IfSome o (ImmediateCodes f g) in
    cond_both (f == 1) _ _ P
    (λ s.
    let e = sym (eqb-true f 1 s) in
    subst (λ x. P (alu_op x g)) e
    (cond_both (g == 0) _ _ P (λ t. (e, sym (eqb-true g 0 t), λ q. cc)) (λ _.
    cond_both (g == 32) _ _ P (λ _. tt) (λ _. tt))))
    (λ not_one.
    cond_both (f == 5) _ _ P
    (λ s.
    let e = sym (eqb-true f 5 s) in
    subst (λ x. P (alu_op x g)) e
    (cond_both (g == 0) _ _ P (λ t. (e, sym (eqb-true g 0 t), λ q. cc)) (λ _.
    cond_both (g == 32) _ _ P (λ t. (e, sym (eqb-true g 32 t), λ q. cc)) (λ _. tt))))
    (λ not_five.
    cond_both (f == 0) _ _ P (λ t. (sym (eqb-true f 0 t), refl, λ q. cc)) (λ _.
    cond_both (f == 1) _ _ P (λ t. absurd (both_ways (f == 1) not_one t)) (λ _.
    cond_both (f == 2) _ _ P (λ t. (sym (eqb-true f 2 t), refl, λ q. cc)) (λ _.
    cond_both (f == 3) _ _ P (λ t. (sym (eqb-true f 3 t), refl, λ q. cc)) (λ _.
    cond_both (f == 4) _ _ P (λ t. (sym (eqb-true f 4 t), refl, λ q. cc)) (λ _.
    cond_both (f == 5) _ _ P (λ t. absurd (both_ways (f == 5) not_five t)) (λ _.
    cond_both (f == 6) _ _ P (λ t. (sym (eqb-true f 6 t), refl, λ q. cc)) (λ _.
    cond_both (f == 7) _ _ P (λ t. (sym (eqb-true f 7 t), refl, λ q. cc)) (λ _. tt))))))))))

lui_reads : (w : ℕ) → w < 2 ^ 32 → opcode_in w ≡ 0b0110111 → Codes w (Lui (rd_in w) (u_immediate w))
unfolding code_of
lui_reads w h e = ((omega arith, omega arith), omega (arith, u_word_whole w h))

auipc_reads : (w : ℕ) → w < 2 ^ 32 → opcode_in w ≡ 0b0010111 → Codes w (Auipc (rd_in w) (u_immediate w))
unfolding code_of
auipc_reads w h e = ((omega arith, omega arith), omega (arith, u_word_whole w h))

jal_reads : (w : ℕ) → w < 2 ^ 32 → opcode_in w ≡ 0b1101111 → Codes w (Jal (rd_in w) (j_immediate w))
unfolding code_of
jal_reads w h e =
    let imm : ℕ = bits 21 10 w * 2 + bits 20 1 w * 2 ^ 11 + bits 12 8 w * 2 ^ 12 + bits 31 1 w * 2 ^ 20 in
    ((omega arith, sign_extend_21_fits imm (omega arith) (omega arith)), omega (arith, j_word_whole w h))

jalr_reads :
    (w : ℕ)
    → w < 2 ^ 32
    → opcode_in w ≡ 0b1100111
    → funct3_in w ≡ 0
    → Codes w (Jalr (rd_in w) (rs1_in w) (i_immediate w))
unfolding code_of
jalr_reads w h e f =
    ((omega arith, omega arith, sign_extend_12_fits (bits 20 12 w) (omega arith)), omega (arith, i_word_whole w h))

branch_reads :
    (w : ℕ) (op : BranchOp)
    → w < 2 ^ 32
    → opcode_in w ≡ 0b1100011
    → branch_funct3 op ≡ funct3_in w
    → Codes w (Branch op (rs1_in w) (rs2_in w) (b_immediate w))
unfolding code_of
branch_reads w op h e f =
    let imm : ℕ = bits 8 4 w * 2 + bits 25 6 w * 2 ^ 5 + bits 7 1 w * 2 ^ 11 + bits 31 1 w * 2 ^ 12 in (
      (omega arith, omega arith, sign_extend_13_fits imm (omega arith) (omega arith)),
      omega (arith, b_word_whole w h),
    )

load_reads :
    (w : ℕ) (op : LoadOp)
    → w < 2 ^ 32
    → opcode_in w ≡ 0b0000011
    → load_funct3 op ≡ funct3_in w
    → Codes w (Load op (rd_in w) (rs1_in w) (i_immediate w))
unfolding code_of
load_reads w op h e f =
    ((omega arith, omega arith, sign_extend_12_fits (bits 20 12 w) (omega arith)), omega (arith, i_word_whole w h))

store_reads :
    (w : ℕ) (op : StoreOp)
    → w < 2 ^ 32
    → opcode_in w ≡ 0b0100011
    → store_funct3 op ≡ funct3_in w
    → Codes w (Store op (rs1_in w) (rs2_in w) (s_immediate w))
unfolding code_of
store_reads w op h e f =
    let imm : ℕ = bits 7 5 w + bits 25 7 w * 2 ^ 5 in
    ((omega arith, omega arith, sign_extend_12_fits imm (omega arith)), omega (arith, s_word_whole w h))

op_reads :
    (w : ℕ) (op : AluOp)
    → w < 2 ^ 32
    → opcode_in w ≡ 0b0110011
    → (alu_funct3 op ≡ funct3_in w) × (alu_funct7 op ≡ funct7_in w)
    → Codes w (Op op (rd_in w) (rs1_in w) (rs2_in w))
unfolding code_of
op_reads w op h e codes = ((omega arith, omega arith, omega arith), omega (arith, r_word_whole w h))

plain_reads :
    (w f : ℕ)
    → w < 2 ^ 32
    → opcode_in w ≡ 0b0010011
    → f ≡ funct3_in w
    → (IsRegister (rd_in w) × IsRegister (rs1_in w) × IsImmediate (i_immediate w))
    × (i_word 0b0010011 (rd_in w) f (rs1_in w) (to_bits 12 (i_immediate w)) ≡ w)
plain_reads w f h e c =
    ((omega arith, omega arith, sign_extend_12_fits (bits 20 12 w) (omega arith)), omega (arith, i_word_whole w h))

shift_reads :
    (w f g : ℕ)
    → w < 2 ^ 32
    → opcode_in w ≡ 0b0010011
    → f ≡ funct3_in w
    → g ≡ funct7_in w
    → (IsRegister (rd_in w) × IsRegister (rs1_in w) × IsBetween (pos 0) (pos 31) (pos (rs2_in w)))
    × (r_word 0b0010011 (rd_in w) f (rs1_in w) (rs2_in w) g ≡ w)
shift_reads w f g h e c d =
    let amount : rs2_in w < 32 = omega arith in (
      (omega arith, omega arith, (omega (arith, ints), omega (arith, ints))),
      omega (arith, r_word_whole w h),
    )

op_imm_reads :
    (w : ℕ) (op : AluOp)
    → w < 2 ^ 32
    → opcode_in w ≡ 0b0010011
    → ImmediateCodes (funct3_in w) (funct7_in w) op
    → Codes w (OpImm op (rd_in w) (rs1_in w) (alu_immediate op w))
unfolding code_of
op_imm_reads w Add h e c = plain_reads w 0 h e c.0
op_imm_reads w Sub h e c = absurd (c.2 refl)
op_imm_reads w Sll h e c = shift_reads w 1 0 h e c.0 c.1
op_imm_reads w Slt h e c = plain_reads w 2 h e c.0
op_imm_reads w Sltu h e c = plain_reads w 3 h e c.0
op_imm_reads w Xor h e c = plain_reads w 4 h e c.0
op_imm_reads w Srl h e c = shift_reads w 5 0 h e c.0 c.1
op_imm_reads w Sra h e c = shift_reads w 5 32 h e c.0 c.1
op_imm_reads w Or h e c = plain_reads w 6 h e c.0
op_imm_reads w And h e c = plain_reads w 7 h e c.0

fence_reads :
    (w : ℕ)
    → w < 2 ^ 32
    → opcode_in w ≡ 0b0001111
    → funct3_in w ≡ 0
    → Codes w (Fence (bits 15 17 w) (rd_in w))
unfolding code_of
fence_reads w h e f = ((omega arith, omega arith), omega arith)

system_reads : (w : ℕ) → IfSome (system_of w) (Codes w)
unfolding code_of
system_reads w =
    let P : Option Instr → Type 0 = λ o. IfSome o (Codes w) in
    cond_both (w == 0x73) _ _ P (λ t. (tt, sym (eqb-true w 0x73 t))) (λ _.
    cond_both (w == 0x100073) _ _ P (λ t. (tt, sym (eqb-true w 0x100073 t))) (λ _. tt))

-- what is decoded has fields in range, and codes the word
pub decode_reads : (w : ℕ) → w < 2 ^ 32 → IfSome (decode_of w) (λ i. InRange i × (code_of i ≡ w))
unfolding decode_of decode_as
decode_reads w h =
    let P : Option Instr → Type 0 = λ o. IfSome o (Codes w) in
    let op : ℕ = opcode_in w in
    let f : ℕ = funct3_in w in
    let g : ℕ = funct7_in w in
    cond_both (op == 0b0110111) _ _ P (λ t. lui_reads w h (eqb-true op 0b0110111 t)) (λ _.
    cond_both (op == 0b0010111) _ _ P (λ t. auipc_reads w h (eqb-true op 0b0010111 t)) (λ _.
    cond_both (op == 0b1101111) _ _ P (λ t. jal_reads w h (eqb-true op 0b1101111 t)) (λ _.
    cond_both (op == 0b1100111) _ _ P
    (λ t.
    let e = eqb-true op 0b1100111 t in
    cond_both (f == 0) _ _ P (λ s. jalr_reads w h e (eqb-true f 0 s)) (λ _. tt))
    (λ _.
    cond_both (op == 0b1100011) _ _ P
    (λ t.
    let e = eqb-true op 0b1100011 t in
    IfSome-option_map _ (branch_op f) (Codes w)
    (IfSome_then (branch_op f) (branch_op_reads f) (λ o c. branch_reads w o h e c)))
    (λ _.
    cond_both (op == 0b0000011) _ _ P
    (λ t.
    let e = eqb-true op 0b0000011 t in
    IfSome-option_map _ (load_op f) (Codes w)
    (IfSome_then (load_op f) (load_op_reads f) (λ o c. load_reads w o h e c)))
    (λ _.
    cond_both (op == 0b0100011) _ _ P
    (λ t.
    let e = eqb-true op 0b0100011 t in
    IfSome-option_map _ (store_op f) (Codes w)
    (IfSome_then (store_op f) (store_op_reads f) (λ o c. store_reads w o h e c)))
    (λ _.
    cond_both (op == 0b0010011) _ _ P
    (λ t.
    let e = eqb-true op 0b0010011 t in
    IfSome-option_map _ (alu_imm_op f g) (Codes w)
    (IfSome_then (alu_imm_op f g) (alu_imm_op_reads f g) (λ o c. op_imm_reads w o h e c)))
    (λ _.
    cond_both (op == 0b0110011) _ _ P
    (λ t.
    let e = eqb-true op 0b0110011 t in
    IfSome-option_map _ (alu_op f g) (Codes w)
    (IfSome_then (alu_op f g) (alu_op_reads f g) (λ o c. op_reads w o h e c)))
    (λ _.
    cond_both (op == 0b0001111) _ _ P
    (λ t.
    let e = eqb-true op 0b0001111 t in
    cond_both (f == 0) _ _ P (λ s. fence_reads w h e (eqb-true f 0 s)) (λ _. tt))
    (λ _.
    cond_both (op == 0b1110011) _ _ P (λ _. system_reads w) (λ _. tt)))))))))))

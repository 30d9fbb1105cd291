-- Fields of a word and signed numbers in two's complement: what is put in comes back.
use Rattle.std.proofs.Common.{◌≡◌, ℕ, suc, ℤ, pos, negsuc, ◌+◌, ◌-◌, ◌*◌, ◌%◌, ◌<◌, ◌≤◌, ◌^◌, cond, refl, ap, ◌∙◌, arith, nat_lt}
use Rattle.std.proofs.lemmas.Bool.{cond_both, cond-true, cond-false, ltb-true, ltb-false, lt-ltb, le-ltb}
use Rattle.std.proofs.lemmas.Int.{ints}
use Rattle.hb_asm.specs.Bits.{bits, to_bits, sign_extend}
use Rattle.hb_asm.specs.Formats.{
  r_word,
  i_word,
  s_word,
  b_word,
  u_word,
  j_word,
  opcode_in,
  rd_in,
  funct3_in,
  rs1_in,
  rs2_in,
  funct7_in,
  i_immediate,
  s_immediate,
  b_immediate,
  u_immediate,
  j_immediate,
}
use Rattle.hb_asm.specs.InRange.{IsImmediate, IsBranchOffset, IsJumpOffset}

-- ---- two's complement, at 12, 13 and 21 bits

pub to_bits-sign_extend_12 : (n : ℕ) → n < 2 ^ 12 → to_bits 12 (sign_extend 12 n) ≡ n
to_bits-sign_extend_12 n h =
    cond_both (nat_lt n 2048) (pos n) (negsuc (4096 - suc n)) (λ z. to_bits 12 z ≡ n) (λ _. refl) (λ _. omega arith)

pub to_bits-sign_extend_13 : (n : ℕ) → n < 2 ^ 13 → to_bits 13 (sign_extend 13 n) ≡ n
to_bits-sign_extend_13 n h =
    cond_both (nat_lt n 4096) (pos n) (negsuc (8192 - suc n)) (λ z. to_bits 13 z ≡ n) (λ _. refl) (λ _. omega arith)

pub to_bits-sign_extend_21 : (n : ℕ) → n < 2 ^ 21 → to_bits 21 (sign_extend 21 n) ≡ n
to_bits-sign_extend_21 n h =
    cond_both
    (nat_lt n 1048576)
    (pos n)
    (negsuc (2097152 - suc n))
    (λ z. to_bits 21 z ≡ n)
    (λ _. refl)
    (λ _. omega arith)

pub sign_extend_12_fits : (n : ℕ) → n < 2 ^ 12 → IsImmediate (sign_extend 12 n)
sign_extend_12_fits n h =
    cond_both
    (nat_lt n 2048)
    (pos n)
    (negsuc (4096 - suc n))
    (λ z. IsImmediate z)
    (λ t. let k : n < 2048 = ltb-true n 2048 t in (omega (arith, ints), omega (arith, ints)))
    (λ t. let k : 2048 ≤ n = ltb-false n 2048 t in (omega (arith, ints), omega (arith, ints)))

pub sign_extend_13_fits : (n : ℕ) → n < 2 ^ 13 → n % 2 ≡ 0 → IsBranchOffset (sign_extend 13 n)
sign_extend_13_fits n h e =
    cond_both
    (nat_lt n 4096)
    (pos n)
    (negsuc (8192 - suc n))
    (λ z. IsBranchOffset z)
    (λ t. let k : n < 4096 = ltb-true n 4096 t in ((omega (arith, ints), omega (arith, ints)), e))
    (λ t. let k : 4096 ≤ n = ltb-false n 4096 t in ((omega (arith, ints), omega (arith, ints)), omega arith))

pub sign_extend_21_fits : (n : ℕ) → n < 2 ^ 21 → n % 2 ≡ 0 → IsJumpOffset (sign_extend 21 n)
sign_extend_21_fits n h e =
    cond_both
    (nat_lt n 1048576)
    (pos n)
    (negsuc (2097152 - suc n))
    (λ z. IsJumpOffset z)
    (λ t. let k : n < 1048576 = ltb-true n 1048576 t in ((omega (arith, ints), omega (arith, ints)), e))
    (λ t. let k : 1048576 ≤ n = ltb-false n 1048576 t in ((omega (arith, ints), omega (arith, ints)), omega arith))

pub to_bits_12_fits : (z : ℤ) → IsImmediate z → to_bits 12 z < 2 ^ 12
to_bits_12_fits (pos n) h = omega (arith, ints)
to_bits_12_fits (negsuc n) h = omega (arith, ints)

pub to_bits_13_fits : (z : ℤ) → IsBranchOffset z → (to_bits 13 z < 2 ^ 13) × (to_bits 13 z % 2 ≡ 0)
to_bits_13_fits (pos n) h = (omega (arith, ints), omega arith)
to_bits_13_fits (negsuc n) h = (omega (arith, ints), let k : n < 4096 = omega (arith, ints) in omega arith)

pub to_bits_21_fits : (z : ℤ) → IsJumpOffset z → (to_bits 21 z < 2 ^ 21) × (to_bits 21 z % 2 ≡ 0)
to_bits_21_fits (pos n) h = (omega (arith, ints), omega arith)
to_bits_21_fits (negsuc n) h = (omega (arith, ints), let k : n < 1048576 = omega (arith, ints) in omega arith)

-- a number whose sign bit is clear, and one whose sign bit is set
sign_extend-low : (half whole n : ℕ) → n < half → cond (nat_lt n half) (pos n) (negsuc (whole - suc n)) ≡ pos n
sign_extend-low half whole n h = cond-true (nat_lt n half) (pos n) (negsuc (whole - suc n)) (lt-ltb n half h)

sign_extend-high : (half whole n m : ℕ) → half ≤ n → whole - suc n ≡ m → cond (nat_lt n half) (pos n) (negsuc (whole - suc n)) ≡ negsuc m
sign_extend-high half whole n m h e =
    cond-false (nat_lt n half) (pos n) (negsuc (whole - suc n)) (le-ltb n half h) ∙ ap negsuc e

pub sign_extend-to_bits_12 : (z : ℤ) → IsImmediate z → sign_extend 12 (to_bits 12 z) ≡ z
sign_extend-to_bits_12 (pos n) h = sign_extend-low 2048 4096 n (omega (arith, ints))
sign_extend-to_bits_12 (negsuc n) h =
    let k : n < 2048 = omega (arith, ints) in sign_extend-high 2048 4096 (4096 - suc n) n (omega arith) (omega arith)

pub sign_extend-to_bits_13 : (z : ℤ) → IsBranchOffset z → sign_extend 13 (to_bits 13 z) ≡ z
sign_extend-to_bits_13 (pos n) h = sign_extend-low 4096 8192 n (omega (arith, ints))
sign_extend-to_bits_13 (negsuc n) h =
    let k : n < 4096 = omega (arith, ints) in sign_extend-high 4096 8192 (8192 - suc n) n (omega arith) (omega arith)

pub sign_extend-to_bits_21 : (z : ℤ) → IsJumpOffset z → sign_extend 21 (to_bits 21 z) ≡ z
sign_extend-to_bits_21 (pos n) h = sign_extend-low 1048576 2097152 n (omega (arith, ints))
sign_extend-to_bits_21 (negsuc n) h =
    let k : n < 1048576 = omega (arith, ints) in
    sign_extend-high 1048576 2097152 (2097152 - suc n) n (omega arith) (omega arith)

-- ---- the fields of a word that a format has put together

pub u_word_fields :
    (opcode rd imm : ℕ)
    → opcode < 2 ^ 7
    → rd < 2 ^ 5
    → imm < 2 ^ 20
    → let w = u_word opcode rd imm in (opcode_in w ≡ opcode) × (rd_in w ≡ rd) × (u_immediate w ≡ imm)
u_word_fields opcode rd imm a b c = (omega arith, omega arith, omega arith)

pub r_word_fields :
    (opcode rd funct3 rs1 rs2 funct7 : ℕ)
    → opcode < 2 ^ 7
    → rd < 2 ^ 5
    → funct3 < 2 ^ 3
    → rs1 < 2 ^ 5
    → rs2 < 2 ^ 5
    → funct7 < 2 ^ 7
    → let w = r_word opcode rd funct3 rs1 rs2 funct7 in
    (opcode_in w ≡ opcode)
    × (rd_in w ≡ rd)
    × (funct3_in w ≡ funct3)
    × (rs1_in w ≡ rs1)
    × (rs2_in w ≡ rs2)
    × (funct7_in w ≡ funct7)
r_word_fields opcode rd funct3 rs1 rs2 funct7 a b c d e f =
    (omega arith, omega arith, omega arith, omega arith, omega arith, omega arith)

pub i_word_fields :
    (opcode rd funct3 rs1 imm : ℕ)
    → opcode < 2 ^ 7
    → rd < 2 ^ 5
    → funct3 < 2 ^ 3
    → rs1 < 2 ^ 5
    → imm < 2 ^ 12
    → let w = i_word opcode rd funct3 rs1 imm in
    (opcode_in w ≡ opcode)
    × (rd_in w ≡ rd)
    × (funct3_in w ≡ funct3)
    × (rs1_in w ≡ rs1)
    × (bits 20 12 w ≡ imm)
i_word_fields opcode rd funct3 rs1 imm a b c d e = (omega arith, omega arith, omega arith, omega arith, omega arith)

pub s_word_fields :
    (opcode funct3 rs1 rs2 imm : ℕ)
    → opcode < 2 ^ 7
    → funct3 < 2 ^ 3
    → rs1 < 2 ^ 5
    → rs2 < 2 ^ 5
    → imm < 2 ^ 12
    → let w = s_word opcode funct3 rs1 rs2 imm in
    (opcode_in w ≡ opcode)
    × (funct3_in w ≡ funct3)
    × (rs1_in w ≡ rs1)
    × (rs2_in w ≡ rs2)
    × (bits 7 5 w + bits 25 7 w * 2 ^ 5 ≡ imm)
s_word_fields opcode funct3 rs1 rs2 imm a b c d e = (omega arith, omega arith, omega arith, omega arith, omega arith)

pub b_word_fields :
    (opcode funct3 rs1 rs2 imm : ℕ)
    → opcode < 2 ^ 7
    → funct3 < 2 ^ 3
    → rs1 < 2 ^ 5
    → rs2 < 2 ^ 5
    → imm < 2 ^ 13
    → imm % 2 ≡ 0
    → let w = b_word opcode funct3 rs1 rs2 imm in
    (opcode_in w ≡ opcode)
    × (funct3_in w ≡ funct3)
    × (rs1_in w ≡ rs1)
    × (rs2_in w ≡ rs2)
    × (bits 8 4 w * 2 + bits 25 6 w * 2 ^ 5 + bits 7 1 w * 2 ^ 11 + bits 31 1 w * 2 ^ 12 ≡ imm)
b_word_fields opcode funct3 rs1 rs2 imm a b c d e f = (omega arith, omega arith, omega arith, omega arith, omega arith)

pub j_word_fields :
    (opcode rd imm : ℕ)
    → opcode < 2 ^ 7
    → rd < 2 ^ 5
    → imm < 2 ^ 21
    → imm % 2 ≡ 0
    → let w = j_word opcode rd imm in
    (opcode_in w ≡ opcode)
    × (rd_in w ≡ rd)
    × (bits 21 10 w * 2 + bits 20 1 w * 2 ^ 11 + bits 12 8 w * 2 ^ 12 + bits 31 1 w * 2 ^ 20 ≡ imm)
j_word_fields opcode rd imm a b c d = (omega arith, omega arith, omega arith)

-- ---- a word is what its format puts together of its fields

pub r_word_whole :
    (w : ℕ) → w < 2 ^ 32 → r_word (opcode_in w) (rd_in w) (funct3_in w) (rs1_in w) (rs2_in w) (funct7_in w) ≡ w
r_word_whole w h = omega arith

pub i_word_whole :
    (w : ℕ) → w < 2 ^ 32 → i_word (opcode_in w) (rd_in w) (funct3_in w) (rs1_in w) (to_bits 12 (i_immediate w)) ≡ w
i_word_whole w h = rw (to_bits-sign_extend_12 (bits 20 12 w) (omega arith)) (omega arith)

pub s_word_whole :
    (w : ℕ) → w < 2 ^ 32 → s_word (opcode_in w) (funct3_in w) (rs1_in w) (rs2_in w) (to_bits 12 (s_immediate w)) ≡ w
s_word_whole w h =
    rw (to_bits-sign_extend_12 (bits 7 5 w + bits 25 7 w * 2 ^ 5) (omega arith)) (omega arith)

pub b_word_whole :
    (w : ℕ) → w < 2 ^ 32 → b_word (opcode_in w) (funct3_in w) (rs1_in w) (rs2_in w) (to_bits 13 (b_immediate w)) ≡ w
b_word_whole w h =
    rw
    (to_bits-sign_extend_13
    (bits 8 4 w * 2 + bits 25 6 w * 2 ^ 5 + bits 7 1 w * 2 ^ 11 + bits 31 1 w * 2 ^ 12)
    (omega arith))
    (omega arith)

pub u_word_whole : (w : ℕ) → w < 2 ^ 32 → u_word (opcode_in w) (rd_in w) (u_immediate w) ≡ w
u_word_whole w h = omega arith

pub j_word_whole : (w : ℕ) → w < 2 ^ 32 → j_word (opcode_in w) (rd_in w) (to_bits 21 (j_immediate w)) ≡ w
j_word_whole w h =
    rw
    (to_bits-sign_extend_21
    (bits 21 10 w * 2 + bits 20 1 w * 2 ^ 11 + bits 12 8 w * 2 ^ 12 + bits 31 1 w * 2 ^ 20)
    (omega arith))
    (omega arith)

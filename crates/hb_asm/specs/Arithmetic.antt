-- What instructions compute from words of 32 bits: sums wrap, and signed numbers stand in two's complement.
use Rattle.std.specs.Prelude.{ℕ, ◌+◌, ◌-◌, ◌*◌, ◌/◌, ◌%◌, ◌^◌, Bool, not, ◌==◌, nat_lt, int_lt, if◌then◌else◌, bit_and, bit_or, bit_xor, ℤ}
use Rattle.std.specs.Int.{w32, cast_signed, cast_unsigned, int_shr}
use Rattle.hb_asm.specs.declared.instr.AluOp.{AluOp}
use Rattle.hb_asm.specs.declared.instr.AluOp.TheVariants.{Add, Sub, Sll, Slt, Sltu, Xor, Srl, Sra, Or, And}
use Rattle.hb_asm.specs.declared.instr.BranchOp.{BranchOp}
use Rattle.hb_asm.specs.declared.instr.BranchOp.TheVariants.{Beq, Bne, Blt, Bge, Bltu, Bgeu}
use Rattle.hb_asm.specs.declared.instr.LoadOp.{LoadOp}
use Rattle.hb_asm.specs.declared.instr.LoadOp.TheVariants.{Lb, Lh, Lw, Lbu, Lhu}
use Rattle.hb_asm.specs.declared.instr.StoreOp.{StoreOp}
use Rattle.hb_asm.specs.declared.instr.StoreOp.TheVariants.{Sb, Sh, Sw}

-- the signed number that a word stands for, and the word that stands for it
abbrev pub signed : ℕ → ℤ
signed word = cast_signed w32 word

abbrev pub unsigned : ℤ → ℕ
unsigned number = cast_unsigned w32 number

abbrev pub wrapped : ℕ → ℕ
wrapped number = number % 2 ^ 32

-- shifts take the low five bits of the second word
unfoldable pub alu_of : AluOp → ℕ → ℕ → ℕ
alu_of Add a b = wrapped (a + b)
alu_of Sub a b = wrapped (a + (2 ^ 32 - b))
alu_of Sll a b = wrapped (a * 2 ^ (b % 32))
alu_of Slt a b = if int_lt (signed a) (signed b) then 1 else 0
alu_of Sltu a b = if nat_lt a b then 1 else 0
alu_of Xor a b = bit_xor a b
alu_of Srl a b = a / 2 ^ (b % 32)
alu_of Sra a b = unsigned (int_shr (signed a) (b % 32))
alu_of Or a b = bit_or a b
alu_of And a b = bit_and a b

unfoldable pub is_taken : BranchOp → ℕ → ℕ → Bool
is_taken Beq a b = a == b
is_taken Bne a b = not (a == b)
is_taken Blt a b = int_lt (signed a) (signed b)
is_taken Bge a b = not (int_lt (signed a) (signed b))
is_taken Bltu a b = nat_lt a b
is_taken Bgeu a b = not (nat_lt a b)

-- how many bytes a load reads, and a store writes
unfoldable pub load_size : LoadOp → ℕ
load_size Lb = 1
load_size Lh = 2
load_size Lw = 4
load_size Lbu = 1
load_size Lhu = 2

unfoldable pub store_size : StoreOp → ℕ
store_size Sb = 1
store_size Sh = 2
store_size Sw = 4

-- a number of so many bits, whose highest bit fills all bits above it
abbrev pub sign_extended : ℕ → ℕ → ℕ
sign_extended bits number = if nat_lt number (2 ^ (bits - 1)) then number else wrapped (number + (2 ^ 32 - 2 ^ bits))

-- what a load leaves in the register, of the bytes that it read
unfoldable pub extended : LoadOp → ℕ → ℕ
extended Lb number = sign_extended 8 number
extended Lh number = sign_extended 16 number
extended Lw number = number
extended Lbu number = number
extended Lhu number = number

-- the part of a register that a store writes
unfoldable pub low_part : StoreOp → ℕ → ℕ
low_part Sb word = word % 2 ^ 8
low_part Sh word = word % 2 ^ 16
low_part Sw word = word

-- Which fields an instruction may have.
use Rattle.std.specs.Prelude.{◌≡◌, ℕ, suc, ℤ, pos, negsuc, ◌%◌, ◌^◌, ◌<◌, ◌≤ℤ◌}
use Rattle.hb_asm.specs.declared.instr.AluOp.{AluOp}
use Rattle.hb_asm.specs.declared.instr.AluOp.TheVariants.{Add, Sub, Sll, Slt, Sltu, Xor, Srl, Sra, Or, And}
use Rattle.hb_asm.specs.declared.instr.Instr.{Instr}
use Rattle.hb_asm.specs.declared.instr.Instr.TheVariants.{
  Lui,
  Auipc,
  Jal,
  Jalr,
  Branch,
  Load,
  Store,
  OpImm,
  Op,
  Fence,
  Ecall,
  Ebreak,
}

abbrev pub IsRegister : ℕ → Type 0
IsRegister r = r < 32

abbrev pub IsBetween : ℤ → ℤ → ℤ → Type 0
IsBetween low high z = (low ≤ℤ z) × (z ≤ℤ high)

abbrev pub IsEven : ℤ → Type 0
IsEven (pos n) = n % 2 ≡ 0
IsEven (negsuc n) = suc n % 2 ≡ 0

-- -2,048 to 2,047
abbrev pub IsImmediate : ℤ → Type 0
IsImmediate imm = IsBetween (negsuc 2047) (pos 2047) imm

-- even, -4,096 to 4,094
abbrev pub IsBranchOffset : ℤ → Type 0
IsBranchOffset imm = IsBetween (negsuc 4095) (pos 4095) imm × IsEven imm

-- even, -1,048,576 to 1,048,574
abbrev pub IsJumpOffset : ℤ → Type 0
IsJumpOffset imm = IsBetween (negsuc 1048575) (pos 1048575) imm × IsEven imm

-- a shift's amount is 0 to 31, and there is no immediate SUB
abbrev pub IsAluImmediate : AluOp → ℤ → Type 0
IsAluImmediate Add imm = IsImmediate imm
IsAluImmediate Sub imm = ⊥
IsAluImmediate Sll imm = IsBetween (pos 0) (pos 31) imm
IsAluImmediate Slt imm = IsImmediate imm
IsAluImmediate Sltu imm = IsImmediate imm
IsAluImmediate Xor imm = IsImmediate imm
IsAluImmediate Srl imm = IsBetween (pos 0) (pos 31) imm
IsAluImmediate Sra imm = IsBetween (pos 0) (pos 31) imm
IsAluImmediate Or imm = IsImmediate imm
IsAluImmediate And imm = IsImmediate imm

abbrev pub InRange : Instr → Type 0
InRange (Lui rd imm) = IsRegister rd × (imm < 2 ^ 20)
InRange (Auipc rd imm) = IsRegister rd × (imm < 2 ^ 20)
InRange (Jal rd imm) = IsRegister rd × IsJumpOffset imm
InRange (Jalr rd rs1 imm) = IsRegister rd × IsRegister rs1 × IsImmediate imm
InRange (Branch op rs1 rs2 imm) = IsRegister rs1 × IsRegister rs2 × IsBranchOffset imm
InRange (Load op rd rs1 imm) = IsRegister rd × IsRegister rs1 × IsImmediate imm
InRange (Store op rs1 rs2 imm) = IsRegister rs1 × IsRegister rs2 × IsImmediate imm
InRange (OpImm op rd rs1 imm) = IsRegister rd × IsRegister rs1 × IsAluImmediate op imm
InRange (Op op rd rs1 rs2) = IsRegister rd × IsRegister rs1 × IsRegister rs2
InRange (Fence high rd) = (high < 2 ^ 17) × IsRegister rd
InRange Ecall = Unit {0}
InRange Ebreak = Unit {0}

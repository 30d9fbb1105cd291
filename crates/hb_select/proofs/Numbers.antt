-- Numbers of 32 bits: how a register gets one, and that words stay below 2^32.
use Rattle.std.proofs.Common.{◌≡◌, ℕ, suc, ◌+◌, ◌-◌, ◌/◌, ◌%◌, ◌^◌, ◌<◌, ◌≤◌, ◌⊎◌, inl, inr, Bool, true, false, nat_lt, if◌then◌else◌, refl, ap, sym, ◌∙◌, subst, arith}
use Rattle.std.specs.Prelude.{ℤ, pos, negsuc}
use Rattle.std.proofs.lemmas.Bool.{cases_lt, lt-ltb, le-ltb}
use Rattle.std.proofs.lemmas.Int.{ints, of_z-to_z}
use Rattle.std.proofs.lemmas.Nat.{or_lt, xor_lt}
use Rattle.std.specs.Int.Bits.{and_lt}
use Rattle.std.specs.Int.{w32, int_shr}
use Rattle.std.specs.Int.Signed.{shr_z}
use Rattle.hb_asm.specs.declared.instr.AluOp.{AluOp}
use Rattle.hb_asm.specs.declared.instr.AluOp.TheVariants.{Add, Sub, Sll, Slt, Sltu, Xor, Srl, Sra, Or, And}
use Rattle.hb_asm.specs.InRange.{IsImmediate}
use Rattle.hb_asm.specs.Arithmetic.{wrapped, unsigned, signed, alu_of}
use Rattle.hb_isa.specs.Table.{upper}
use Rattle.hb_select.specs.Code.{upper_part, lower_part, address_of}

-- ---- a number in two parts

pub upper-fits : (number : ℕ) → upper_part number < 2 ^ 20
upper-fits number = omega arith

small_lower : (number : ℕ) → nat_lt (number % 4096) 2048 ≡ true → lower_part number ≡ pos (number % 4096)
small_lower number h = rw h refl

large_lower : (number : ℕ) → nat_lt (number % 4096) 2048 ≡ false → lower_part number ≡ negsuc (4095 - number % 4096)
large_lower number h = rw h refl

is_immediate-small : (low : ℕ) → low < 2048 → IsImmediate (pos low)
is_immediate-small low h = (omega (arith, ints), omega (arith, ints))

is_immediate-large : (low : ℕ) → 2048 ≤ low → low < 4096 → IsImmediate (negsuc (4095 - low))
is_immediate-large low h k = (omega (arith, ints), omega (arith, ints))

pub lower-fits : (number : ℕ) → IsImmediate (lower_part number)
lower-fits number = by (cases_lt (number % 4096) 2048)
  where
    by : (number % 4096 < 2048) ⊎ (2048 ≤ number % 4096) → IsImmediate (lower_part number)
    by (inl h) = subst IsImmediate (sym (small_lower number (lt-ltb _ _ h))) (is_immediate-small (number % 4096) h)
    by (inr h) = subst IsImmediate (sym (large_lower number (le-ltb _ _ h))) (is_immediate-large (number % 4096) h (omega arith))

whole-small : (number : ℕ) → number < 2 ^ 32 → number % 4096 < 2048 → wrapped (upper (upper_part number) + number % 4096) ≡ number
whole-small number h k = omega arith

whole-large : (number : ℕ) → number < 2 ^ 32 → 2048 ≤ number % 4096 → wrapped (upper (upper_part number) + (2 ^ 32 - suc (4095 - number % 4096))) ≡ number
whole-large number h k = omega arith

-- both parts together are the number
pub parts-whole : (number : ℕ) → number < 2 ^ 32 → wrapped (upper (upper_part number) + unsigned (lower_part number)) ≡ number
parts-whole number h = by (cases_lt (number % 4096) 2048)
  where
    by : (number % 4096 < 2048) ⊎ (2048 ≤ number % 4096) → wrapped (upper (upper_part number) + unsigned (lower_part number)) ≡ number
    by (inl k) = ap (λ z. wrapped (upper (upper_part number) + unsigned z)) (small_lower number (lt-ltb _ _ k)) ∙ whole-small number h k
    by (inr k) = ap (λ z. wrapped (upper (upper_part number) + unsigned z)) (large_lower number (le-ltb _ _ k)) ∙ whole-large number h k

pub address-fits : (word : ℕ) → address_of word < 2 ^ 32
address-fits word = omega arith

pub plus_nothing : (number : ℕ) → number < 2 ^ 32 → wrapped (number + unsigned (pos 0)) ≡ number
plus_nothing number h = omega arith

-- ---- what is computed

test-fits : (b : Bool) → (if b then 1 else 0) < 2 ^ 32
test-fits true = omega arith
test-fits false = omega arith

shift_right-fits : (a d : ℕ) → a < 2 ^ 32 → a / d < 2 ^ 32
shift_right-fits a d h = grind arith

shifted-fits : (z : ℤ) (d : ℕ) → unsigned z < 2 ^ 32 → unsigned (shr_z z d) < 2 ^ 32
shifted-fits (pos n) d h = shift_right-fits n d h
shifted-fits (negsuc n) d h = omega arith

signed_shift-fits : (a k : ℕ) → a < 2 ^ 32 → unsigned (int_shr (signed a) k) < 2 ^ 32
signed_shift-fits a k h = shifted-fits (signed a) (2 ^ k) (subst (λ n. n < 2 ^ 32) (sym (of_z-to_z w32 a h)) h)

pub alu-fits : (op : AluOp) (a b : ℕ) → a < 2 ^ 32 → b < 2 ^ 32 → alu_of op a b < 2 ^ 32
unfolding alu_of
alu-fits Add a b h k = omega arith
alu-fits Sub a b h k = omega arith
alu-fits Sll a b h k = omega arith
alu-fits Slt a b h k = test-fits _
alu-fits Sltu a b h k = test-fits _
alu-fits Xor a b h k = xor_lt 32 a b h k
alu-fits Srl a b h k = shift_right-fits a (2 ^ (b % 32)) h
alu-fits Sra a b h k = signed_shift-fits a (b % 32) h
alu-fits Or a b h k = or_lt 32 a b h k
alu-fits And a b h k = and_lt 32 a b h k

-- Fields of a number in binary, and signed numbers in two's complement.
use Rattle.std.specs.Prelude.{ℕ, suc, ℤ, pos, negsuc, ◌-◌, ◌/◌, ◌%◌, ◌^◌, nat_lt, if◌then◌else◌}

-- the field of `count` bits from bit `low` up
abbrev pub bits : ℕ → ℕ → ℕ → ℕ
bits low count n = n / 2 ^ low % 2 ^ count

-- the bits of a signed number in two's complement, `count` of them
abbrev pub to_bits : ℕ → ℤ → ℕ
to_bits count (pos n) = n
to_bits count (negsuc n) = 2 ^ count - suc n

-- the signed number of so many bits: the top one is its sign
abbrev pub sign_extend : ℕ → ℕ → ℤ
sign_extend count n = if nat_lt n (2 ^ (count - 1)) then pos n else negsuc (2 ^ count - suc n)

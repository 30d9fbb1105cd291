-- Numbers and bit literals: their form, and what they stand for.
use Rattle.std.specs.Prelude.{ℕ, suc, ◌+◌, ◌-◌, ◌*◌, ◌^◌, Bool, false, not, ◌&&◌, ◌||◌, ◌==◌, nat_lt, nat_le, if◌then◌else◌, List, [], ◌∷◌, length, drop, slice_index}
use Rattle.std.specs.List.{list_all}
use Rattle.hb_base.specs.PortName.{is_lower, is_digit}

-- a decimal digit, or a letter from `a` to `f` in either case
abbrev pub is_hex : ℕ → Bool
is_hex c = is_digit c || ((nat_le 65 c && nat_le c 70) || (nat_le 97 c && nat_le c 102))

-- what a digit stands for
abbrev pub digit_value : ℕ → ℕ
digit_value c = if is_digit c then c - 48 else if is_lower c then c - 87 else c - 55

abbrev pub is_digit_of : ℕ → ℕ → Bool
is_digit_of base c = is_hex c && nat_lt (digit_value c) base

-- how many digits stand among digits and `_`
unfoldable pub digit_count : List ℕ → ℕ
digit_count [] = 0
digit_count (c ∷ cs) = if c == 95 then digit_count cs else suc (digit_count cs)

-- what digits stand for in a base, the highest first; `_` is passed over
unfoldable pub value_of : ℕ → List ℕ → ℕ
value_of base [] = 0
value_of base (c ∷ cs) = if c == 95 then value_of base cs else digit_value c * base ^ digit_count cs + value_of base cs

-- the base that the second byte of a number names: `x`, `o` or `b`; 0 where it names none
abbrev pub named_base : ℕ → ℕ
named_base c = if c == 120 then 16 else if c == 111 then 8 else if c == 98 then 2 else 0

-- `0x`, `0o` or `0b`, and then one or more digits of that base
abbrev pub has_base : List ℕ → Bool
has_base w =
    (slice_index w 0 == 48) && (nat_lt 0 (named_base (slice_index w 1))
    && (nat_lt 2 (length w) && list_all (is_digit_of (named_base (slice_index w 1))) (drop 2 w)))

-- decimal digits
abbrev pub is_decimal : List ℕ → Bool
is_decimal w = list_all (is_digit_of 10) w

-- how many bits a digit of a bit literal stands for, by its first letter: `B`, `O` or `X`; 0 where the letter begins none
abbrev pub digit_bits : ℕ → ℕ
digit_bits c = if c == 66 then 1 else if c == 79 then 3 else if c == 88 then 4 else 0

-- a digit of so many bits; the letters are upper case
abbrev pub is_bit_digit : ℕ → ℕ → Bool
is_bit_digit bits c = not (is_lower c) && is_digit_of (2 ^ bits) c

-- digits, with single `_` between digits
unfoldable pub are_separated : (ℕ → Bool) → List ℕ → Bool
are_separated is_of [] = false
are_separated is_of (c ∷ []) = is_of c
are_separated is_of (c ∷ d ∷ cs) = is_of c && (if d == 95 then are_separated is_of cs else are_separated is_of (d ∷ cs))

-- a bit literal is a whole word: its letter, and then digits
abbrev pub is_bit_literal : List ℕ → Bool
is_bit_literal w = nat_lt 0 (digit_bits (slice_index w 0)) && are_separated (is_bit_digit (digit_bits (slice_index w 0))) (drop 1 w)

abbrev pub literal_width : List ℕ → ℕ
literal_width w = digit_bits (slice_index w 0) * digit_count (drop 1 w)

abbrev pub literal_value : List ℕ → ℕ
literal_value w = value_of (2 ^ digit_bits (slice_index w 0)) (drop 1 w)

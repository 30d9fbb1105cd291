-- The pieces of a line of a map.
use Rattle.std.specs.Prelude.{ℕ, zero, suc, ◌+◌, ◌/◌, ◌%◌, nat_lt, if◌then◌else◌, List, [], ◌∷◌, ◌++◌, decimal}
use Rattle.hb_bits.specs.declared.pattern.Pattern.{Pattern}

-- upper-case digits
abbrev pub hex_digit : ℕ → ℕ
hex_digit digit = if nat_lt digit 10 then 48 + digit else 55 + digit

abbrev pub hex_byte : ℕ → List ℕ
hex_byte byte = hex_digit (byte / 16) ∷ hex_digit (byte % 16) ∷ []

-- the eight digits of an address
unfoldable pub address_digits : ℕ → List ℕ
address_digits address = hex_byte (address / 16777216) ++ hex_byte (address / 65536 % 256) ++ hex_byte (address / 256 % 256) ++ hex_byte (address % 256)

-- the last so many binary digits of a number
unfoldable pub binary : ℕ → ℕ → List ℕ
binary zero number = []
binary (suc width) number = binary width (number / 2) ++ (48 + number % 2) ∷ []

-- `B` and the digits
abbrev pub pattern_digits : Pattern → List ℕ
pattern_digits pattern = 66 ∷ binary pattern.width pattern.word

-- what stands after a blank
abbrev pub after_blank : List ℕ → List ℕ
after_blank word = 32 ∷ word

abbrev pub number_after : ℕ → List ℕ
number_after number = 32 ∷ decimal number

abbrev pub address_after : ℕ → List ℕ
address_after address = 32 ∷ address_digits address

abbrev pub pattern_after : Pattern → List ℕ
pattern_after pattern = 32 ∷ pattern_digits pattern

-- line and column
abbrev pub place_after : ℕ → ℕ → List ℕ
place_after line column = number_after line ++ (58 ∷ decimal column)

-- a struct and its field
abbrev pub dotted_after : List ℕ → List ℕ → List ℕ
dotted_after before after = after_blank before ++ (46 ∷ after)

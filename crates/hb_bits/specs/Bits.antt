-- Patterns as lists of bits, the most significant first.
use Rattle.std.specs.Prelude.{ℕ, zero, suc, ◌+◌, ◌-◌, ◌/◌, ◌%◌, ◌^◌, ◌==◌, Bool, if◌then◌else◌, List, [], ◌∷◌, ◌++◌, length, take, drop}

-- the last so many binary digits of a number
unfoldable pub digits : ℕ → ℕ → List Bool
digits zero number = []
digits (suc width) number = digits width (number / 2) ++ (number % 2 == 1) ∷ []

-- the number that these binary digits spell
abbrev pub number : List Bool → ℕ
number [] = 0
number (bit ∷ bits) = (if bit then 2 ^ length bits else 0) + number bits

-- the part of this width, with `at` bits after it
abbrev pub cut_at : ℕ → ℕ → List Bool → List Bool
cut_at at width bits = take width (drop (length bits - (at + width)) bits)

-- the bits with this part in the place of those that have `at` bits after them
abbrev pub place_at : ℕ → List Bool → List Bool → List Bool
place_at at part bits = take (length bits - (at + length part)) bits ++ part ++ drop (length bits - at) bits

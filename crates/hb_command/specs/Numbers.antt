-- Numbers among words.
use Rattle.std.specs.Prelude.{ℕ, ◌+◌, ◌-◌, ◌*◌, ◌^◌, ◌&&◌, nat_lt, if◌then◌else◌, List, [], ◌∷◌, Option, Some, None, option_and_then}
use Rattle.hb_base.specs.PortName.{is_digit}

-- the number with one decimal digit more, below 2^64
abbrev pub with_digit : ℕ → ℕ → Option ℕ
with_digit number c = if is_digit c && nat_lt (10 * number + (c - 48)) (2 ^ 64) then Some (10 * number + (c - 48)) else None

abbrev pub with_digits : ℕ → List ℕ → Option ℕ
with_digits number [] = Some number
with_digits number (c ∷ cs) = option_and_then (λ more. with_digits more cs) (with_digit number c)

-- one or more decimal digits, of a number below 2^64
abbrev pub number_of : List ℕ → Option ℕ
number_of [] = None
number_of (c ∷ cs) = with_digits 0 (c ∷ cs)

-- the number, where it is in this range
abbrev pub within : ℕ → ℕ → ℕ → Option ℕ
within least most number = if nat_lt number least then None else if nat_lt most number then None else Some number

-- the steps that a run may do where no number is given
abbrev pub standard_steps : ℕ
standard_steps = 100000000

-- the bytes of the stack, by the number that is given
abbrev pub stack_of : Option ℕ → Option ℕ
stack_of None = Some 1048576
stack_of (Some number) = within 4096 16777216 number

-- the number of a sample
abbrev pub sample_number : List ℕ → Option ℕ
sample_number word = option_and_then (within 1 3000) (number_of word)

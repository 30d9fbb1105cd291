-- Values that are one number at a type: literals, what ports carry, and what a cell without an initialiser holds.
use Rattle.std.specs.Prelude.{ℕ, [], ◌∷◌, Option, Some, None, option_map}
use Rattle.hb_types.specs.Types.{Ty}
use Rattle.hb_bits.specs.Bits.{digits, number}
use Rattle.hb_core.specs.TypeForms.{Form, Of, Unsigned, Signed, Bit, Ix, Declared, form, type_number}
use Rattle.hb_core.specs.Values.{Val, Number, Pattern}
use Rattle.hb_core.specs.View.{View}

-- the bits of a number at a width
abbrev pub bits_at : ℕ → ℕ → Val
bits_at width k = Pattern (digits width k)

abbrev pub value_as : View → Form → ℕ → Option Val
value_as P (Of Unsigned []) k = Some (Number k)
value_as P (Of Signed []) k = Some (Number k)
value_as P (Of Ix (n ∷ [])) k = Some (Number k)
value_as P (Of Bit (n ∷ [])) k = option_map (λ width. bits_at width k) (type_number n)
value_as P (Of (Declared t) []) k = option_map (λ bits. bits_at bits.width k) (P.bit_types t)
value_as P f k = None

-- the value of a type that has this number: none where values of the type are no numbers
abbrev pub value_at : View → Ty → ℕ → Option Val
value_at P t k = value_as P (form t) k

-- the number of a value, if it is one number
abbrev pub number_of : Val → Option ℕ
number_of (Number k) = Some k
number_of (Pattern bits) = Some (number bits)
number_of v = None

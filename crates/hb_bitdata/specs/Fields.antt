-- Fields of patterns.
use Rattle.std.specs.Prelude.{ℕ, Bool, List, [], ◌∷◌, Option, slice_get}
use Rattle.std.specs.Option.{option_and_then}
use Rattle.hb_bits.specs.Bits.{digits, place_at}
use Rattle.hb_bits.specs.declared.pattern.Pattern.{Pattern}
use Rattle.hb_bits.specs.OfPattern.{bits_of}
use Rattle.hb_bitdata.specs.declared.place.FieldPlace.{FieldPlace}
use Rattle.hb_bitdata.specs.declared.con.ConLayout.{ConLayout}
use Rattle.hb_bitdata.specs.declared.layout.BitLayout.{BitLayout}

-- a field of a constructor, by their numbers
abbrev pub field_at : BitLayout → ℕ → ℕ → Option FieldPlace
field_at layout con field = option_and_then (λ c. slice_get c.fields field) (slice_get layout.cons con)

-- the bits with these parts at the places of the fields
abbrev pub placed : List FieldPlace → List Pattern → List Bool → List Bool
placed [] parts bits = bits
placed (field ∷ fields) [] bits = bits
placed (field ∷ fields) (part ∷ parts) bits = placed fields parts (place_at field.at (bits_of part) bits)

-- the tag bits of a constructor, with zeros between them
abbrev pub tags : ConLayout → List Bool
tags con = digits con.cube.width con.cube.value

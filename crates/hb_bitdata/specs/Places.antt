-- Fields as they lie in a pattern.
use Rattle.std.specs.Prelude.{ℕ, ◌+◌, ◌-◌, Bool, true, false, ◌&&◌, nat_le, List, [], ◌∷◌, ◌++◌, replicate}
use Rattle.hb_bits.specs.Members.{Member}
use Rattle.hb_bits.specs.Members.Member.{Fixed, Free}
use Rattle.hb_bitdata.specs.declared.place.FieldPlace.{FieldPlace}

-- the fields lie within so many bits, each below the one before it
abbrev pub are_below : ℕ → List FieldPlace → Bool
are_below top [] = true
are_below top (field ∷ fields) = nat_le (field.at + field.width) top && are_below field.at fields

-- which of so many bits these fields hold, from the most significant down
abbrev pub held : ℕ → List FieldPlace → List Bool
held top [] = replicate top false
held top (field ∷ fields) = replicate (top - (field.at + field.width)) false ++ (replicate field.width true ++ held field.at fields)

abbrev pub is_free : Member → Bool
is_free (Fixed fixed) = false
is_free Free = true

-- Cubes as lists of members, and the patterns that are in them.
use Rattle.std.specs.Prelude.{◌≡◌, ℕ, zero, suc, ◌/◌, ◌%◌, ◌==◌, Bool, if◌then◌else◌, List, [], ◌∷◌, ◌++◌, ◌≤◌}
use Rattle.hb_bits.specs.Bits.{number}

-- a bit that is fixed, or free to be either
pub data Member : Type 0 where
  Fixed : Bool → Member
  Free : Member

-- a member by its binary digits in a mask of the fixed places and in a value
abbrev pub member : ℕ → ℕ → Member
member mask value = if mask == 1 then Fixed (value == 1) else Free

-- the last so many members
unfoldable pub members : ℕ → ℕ → ℕ → List Member
members zero mask value = []
members (suc width) mask value = members width (mask / 2) (value / 2) ++ member (mask % 2) (value % 2) ∷ []

abbrev pub Agrees : Member → Bool → Type 0
Agrees (Fixed fixed) bit = bit ≡ fixed
Agrees Free bit = Unit {0}

-- a pattern is in a cube of its width where it agrees at each member that is not free
abbrev pub IsIn : List Member → List Bool → Type 0
IsIn [] [] = Unit {0}
IsIn [] (bit ∷ bits) = ⊥
IsIn (member ∷ members) [] = ⊥
IsIn (member ∷ members) (bit ∷ bits) = Agrees member bit × IsIn members bits

abbrev pub IsInBoth : List Member → List Member → List Bool → Type 0
IsInBoth cube other bits = IsIn cube bits × IsIn other bits

-- no pattern that is in both has a smaller number
abbrev pub IsLeastInBoth : List Member → List Member → List Bool → Type 0
IsLeastInBoth cube other bits = IsInBoth cube other bits × ((more : List Bool) → IsInBoth cube other more → number bits ≤ number more)

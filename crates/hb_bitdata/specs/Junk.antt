-- Junk: the patterns of a bitdata type that no constructor has.
use Rattle.std.specs.Prelude.{◌≡◌, ℕ, ◌<◌, ◌≤◌, Bool, List, [], ◌∷◌, map, length, Option, None, Some}
use Rattle.hb_bits.specs.declared.cube.Cube.{Cube}
use Rattle.hb_bits.specs.Bits.{number}
use Rattle.hb_bits.specs.declared.pattern.Pattern.{Pattern}
use Rattle.hb_bits.specs.OfPattern.{bits_of}
use Rattle.hb_bits.specs.Members.{IsIn, IsInBoth, IsLeastInBoth}
use Rattle.hb_bits.specs.OfCube.{members_of}
use Rattle.hb_bitdata.specs.declared.con.ConLayout.{ConLayout}

abbrev pub IsOutOfAll : List Cube → List Bool → Type 0
IsOutOfAll [] bits = Unit {0}
IsOutOfAll (cube ∷ cubes) bits = (¬ IsIn (members_of cube) bits) × IsOutOfAll cubes bits

abbrev pub HaveWidth : ℕ → List Cube → Type 0
HaveWidth width [] = Unit {0}
HaveWidth width (cube ∷ cubes) = (cube.width ≡ width) × HaveWidth width cubes

abbrev pub HaveBits : List Cube → Type 0
HaveBits [] = Unit {0}
HaveBits (cube ∷ cubes) = (0 < cube.width) × HaveBits cubes

-- a pattern of this width that is in none of the cubes
pub record IsOutside (width : ℕ) (cubes : List Cube) (bits : List Bool) : Type 0 where
  pub wide : length bits ≡ width
  pub out : IsOutOfAll cubes bits

-- and no such pattern has a smaller number
pub record IsLeastOutside (width : ℕ) (cubes : List Cube) (bits : List Bool) : Type 0 where
  pub outside : IsOutside width cubes bits
  pub least : (more : List Bool) → IsOutside width cubes more → number bits ≤ number more

-- the least pattern in none of the cubes, or none where there is none
abbrev pub IsAnswer : ℕ → List Cube → Option Pattern → Type 0
IsAnswer width cubes None = (bits : List Bool) → ¬ IsOutside width cubes bits
IsAnswer width cubes (Some pattern) = (pattern.width ≡ width) × IsLeastOutside width cubes (bits_of pattern)

abbrev pub cubes_of : List ConLayout → List Cube
cubes_of cons = map (λ con. con.cube) cons

-- the least pattern in the cubes of both constructors, or none where there is none
abbrev pub IsShared : Option ConLayout → Option ConLayout → Option Pattern → Type 0
IsShared (Some a) (Some b) None = (bits : List Bool) → ¬ IsInBoth (members_of a.cube) (members_of b.cube) bits
IsShared (Some a) (Some b) (Some pattern) = (pattern.width ≡ a.cube.width) × IsLeastInBoth (members_of a.cube) (members_of b.cube) (bits_of pattern)
IsShared None b found = ⊥
IsShared (Some a) None found = ⊥

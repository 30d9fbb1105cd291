-- The addresses of areas: one after another, each at the next multiple of its alignment.
use Rattle.std.specs.Prelude.{◌≡◌, ℕ, ◌+◌, ◌-◌, ◌*◌, ◌/◌, Bool, ◌||◌, ◌==◌, nat_lt, if◌then◌else◌, List, [], ◌∷◌, Option, None, Some}
use Rattle.hb_area.specs.declared.form.Extent.{Extent}
use Rattle.hb_area.specs.declared.placing.Placing.{Placing}
use Rattle.hb_area.specs.declared.placing.Placing.TheVariants.{Placed, Over}
use Rattle.hb_area.specs.declared.placing.TheConstants.{AREAS_START, AREAS_END}

-- the least multiple of the alignment from an address on
abbrev pub next_address : ℕ → ℕ → ℕ
next_address address align = (address + (align - 1)) / align * align

-- a power of two up to 65,536
abbrev pub is_alignment : ℕ → Bool
is_alignment n = (n == 1) || ((n == 2) || ((n == 4) || ((n == 8) || ((n == 16) || ((n == 32) || ((n == 64) || ((n == 128) || ((n == 256) || ((n == 512) || ((n == 1024) || ((n == 2048) || ((n == 4096) || ((n == 8192) || ((n == 16384) || ((n == 32768) || (n == 65536))))))))))))))))

abbrev pub addresses_from : ℕ → List Extent → List ℕ
addresses_from at [] = []
addresses_from at (area ∷ areas) = next_address at area.align ∷ addresses_from (next_address at area.align + area.size) areas

-- the number of the first area that ends above the end
abbrev pub over_from : ℕ → ℕ → List Extent → Option ℕ
over_from number at [] = None
over_from number at (area ∷ areas) = if nat_lt AREAS_END (next_address at area.align + area.size) then Some number else over_from (number + 1) (next_address at area.align + area.size) areas

abbrev pub IsPlacing : List Extent → Placing → Type 0
IsPlacing areas (Placed addresses) = (over_from 0 AREAS_START areas ≡ None) × (addresses ≡ addresses_from AREAS_START areas)
IsPlacing areas (Over number) = over_from 0 AREAS_START areas ≡ Some number

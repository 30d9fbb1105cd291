-- No two areas have a byte in common: each begins where the one before it ends, or later.
use Rattle.std.specs.Prelude.{ℕ, ◌+◌, ◌-◌, ◌*◌, ◌/◌, ◌<◌, ◌≤◌, List, [], ◌∷◌}
use Rattle.std.proofs.Common.{arith, mul_comm}
use Rattle.hb_area.specs.declared.form.Extent.{Extent}
use Rattle.hb_area.specs.Placing.{next_address, addresses_from}

-- areas at these addresses, from an address on
abbrev pub AreApart : ℕ → List Extent → List ℕ → Type 0
AreApart at [] addresses = Unit {0}
AreApart at (area ∷ areas) [] = Unit {0}
AreApart at (area ∷ areas) (address ∷ addresses) = (at ≤ address) × AreApart (address + area.size) areas addresses

up : (address align : ℕ) → 0 < align → address ≤ (address + (align - 1)) / align * align
up address align above = omega (arith, mul_comm align ((address + (align - 1)) / align))

pub AreApart-addresses : (at : ℕ) (areas : List Extent) → AreApart at areas (addresses_from at areas)
AreApart-addresses at [] = tt
AreApart-addresses at (area ∷ areas) = (up at area.align area.positive, AreApart-addresses (next_address at area.align + area.size) areas)

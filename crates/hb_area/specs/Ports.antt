-- The ports of a program: each from 80000000 up, at a multiple of its bytes, and no byte of two.
use Rattle.std.specs.Prelude.{ℕ, ◌+◌, ◌%◌, Bool, true, false, ◌&&◌, ◌||◌, ◌==◌, not, nat_lt, nat_le, if◌then◌else◌, List, [], ◌∷◌, length, Option, None, Some, is_some}
use Rattle.hb_area.specs.declared.port_form.PortForm.{PortForm}
use Rattle.hb_area.specs.declared.ports.PortSpot.{PortSpot}
use Rattle.hb_area.specs.declared.ports.PortFault.{PortFault}
use Rattle.hb_area.specs.declared.ports.PortFault.TheVariants.{Place, Align, Overlap, NotStored, Name, Count}

-- a byte belongs to both
abbrev pub overlaps : PortSpot → ℕ → ℕ → Bool
overlaps earlier width address = nat_lt address (earlier.address + earlier.width) && nat_lt earlier.address (address + width)

abbrev pub is_free : List PortSpot → ℕ → ℕ → Bool
is_free [] width address = true
is_free (port ∷ ports) width address = not (overlaps port width address) && is_free ports width address

abbrev pub is_outside : Option ℕ → ℕ → Bool
is_outside None address = nat_lt address 2147483648 || nat_lt 4294967296 (address + 1)
is_outside (Some width) address = nat_lt address 2147483648 || nat_lt 4294967296 (address + width)

abbrev pub is_off : Option ℕ → ℕ → Bool
is_off None address = false
is_off (Some width) address = not (address % width == 0)

abbrev pub is_taken : List PortSpot → Option ℕ → ℕ → Bool
is_taken ports None address = false
is_taken ports (Some width) address = not (is_free ports width address)

-- the first thing that is wrong with a port after these
abbrev pub fault_of : List PortSpot → PortForm → Option PortFault
fault_of ports form = if is_outside form.width form.address then Some Place else (if is_off form.width form.address then Some Align else (if is_taken ports form.width form.address then Some Overlap else (if not (is_some form.width) then Some NotStored else (if nat_lt 64 form.name_bytes then Some Name else (if nat_le 256 (length ports) then Some Count else None)))))

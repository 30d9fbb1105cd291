-- The bytes that loads and stores reach, by the memory map: the areas from 20000000 on, and the stack region up to 40000000.
use Rattle.std.specs.Prelude.{ℕ, zero, suc, ◌+◌, ◌-◌, ◌*◌, ◌/◌, ◌%◌, ◌≤◌, Bool, ◌&&◌, nat_le, if◌then◌else◌, List, length, replicate, slice_get, slice_index, slice_set, Option, Some, None, is_some}

-- bytes at one address after another
pub record Region : Type 0 where
  pub base : ℕ
  pub bytes : List ℕ

pub record Memory : Type 0 where
  pub areas : Region
  pub stack : Region

abbrev pub areas_base : ℕ
areas_base = 536870912

-- where the stack region ends, and ports are still far above
abbrev pub stack_end : ℕ
stack_end = 1073741824

-- the stack region has so many bytes beside the stack
abbrev pub beside_stack : ℕ
beside_stack = 1024

-- all bytes zero
unfoldable pub zeroed : ℕ → ℕ → Memory
zeroed areas stack = record {
  areas = record { base = areas_base; bytes = replicate areas 0 };
  stack = record { base = stack_end - (stack + beside_stack); bytes = replicate (stack + beside_stack) 0 };
}

-- one past the last address
abbrev pub end_of : Region → ℕ
end_of region = region.base + length region.bytes

-- memory is a finite map from addresses to bytes
abbrev pub byte_in : Region → ℕ → Option ℕ
byte_in region address = if nat_le region.base address then slice_get region.bytes (address - region.base) else None

unfoldable pub byte_at : Memory → ℕ → Option ℕ
byte_at memory address =
    if is_some (byte_in memory.areas address) then byte_in memory.areas address else byte_in memory.stack address

-- all bytes of an access stand in the region
abbrev pub is_within : Region → ℕ → ℕ → Bool
is_within region address size = nat_le region.base address && nat_le (address + size) (end_of region)

-- the number that so many bytes hold from a place on, the lowest first
unfoldable pub number_at : List ℕ → ℕ → ℕ → ℕ
number_at bytes place zero = 0
number_at bytes place (suc size) = slice_index bytes place + 256 * number_at bytes (place + 1) size

-- the bytes with a number put into so many of them from a place on, the lowest first
unfoldable pub put_number : List ℕ → ℕ → ℕ → ℕ → List ℕ
put_number bytes place zero number = bytes
put_number bytes place (suc size) number = put_number (slice_set bytes place (number % 256)) (place + 1) size (number / 256)

abbrev pub number_in : Region → ℕ → ℕ → ℕ
number_in region address size = number_at region.bytes (address - region.base) size

abbrev pub put_in : Region → ℕ → ℕ → ℕ → Region
put_in region address size number = record region { bytes = put_number region.bytes (address - region.base) size number }

-- an access lies wholly in one region, or there is none
unfoldable pub load : Memory → ℕ → ℕ → Option ℕ
load memory address size =
    if is_within memory.areas address size then Some (number_in memory.areas address size)
    else (if is_within memory.stack address size then Some (number_in memory.stack address size) else None)

unfoldable pub store : Memory → ℕ → ℕ → ℕ → Option Memory
store memory address size number =
    if is_within memory.areas address size then Some (record memory { areas = put_in memory.areas address size number })
    else (if is_within memory.stack address size then Some (record memory { stack = put_in memory.stack address size number }) else None)

-- no address belongs to both regions
pub record AreApart (memory : Memory) : Type 0 where
  pub apart : end_of memory.areas ≤ memory.stack.base

-- the byte at this place of a number, the lowest first
unfoldable pub byte_of : ℕ → ℕ → ℕ
byte_of number zero = number % 256
byte_of number (suc place) = byte_of (number / 256) place

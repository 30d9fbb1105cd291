-- The size, the alignment and the faults of a type of memory, where the structs are laid out already.
use Rattle.std.specs.Prelude.{ℕ, ◌*◌, ◌%◌, ◌^◌, Bool, true, false, ◌||◌, ◌==◌, nat_le, not, List, Option, None, Some, is_some, slice_get}
use Rattle.hb_area.specs.declared.form.AreaForm.{AreaForm, Cell, Broken, Array', Struct}
use Rattle.hb_area.specs.declared.form.Extent.{Extent}

-- the extent of a struct by its number, if it is known
abbrev pub struct_at : List (Option Extent) → ℕ → Option Extent
struct_at structs number = pick (slice_get structs number)
  where
    pick : Option (Option Extent) → Option Extent
    pick None = None
    pick (Some extent) = extent

abbrev pub extent_size : Option Extent → ℕ
extent_size None = 0
extent_size (Some extent) = extent.size

abbrev pub extent_align : Option Extent → ℕ
extent_align None = 1
extent_align (Some extent) = extent.align

-- no cell in it has a type that is not stored
abbrev pub is_known : List (Option Extent) → AreaForm → Bool
is_known structs (Cell form) = true
is_known structs Broken = false
is_known structs (Array' count pointer part) = is_known structs part
is_known structs (Struct number) = is_some (struct_at structs number)

-- an array has its elements one after another
abbrev pub size_of : List (Option Extent) → AreaForm → ℕ
size_of structs (Cell form) = form.bytes
size_of structs Broken = 0
size_of structs (Array' count pointer part) = count * size_of structs part
size_of structs (Struct number) = extent_size (struct_at structs number)

-- and the alignment of an element
abbrev pub align_of : List (Option Extent) → AreaForm → ℕ
align_of structs (Cell form) = form.bytes
align_of structs Broken = 1
align_of structs (Array' count pointer part) = align_of structs part
align_of structs (Struct number) = extent_align (struct_at structs number)

-- more than 4,294,967,295 bytes, or an inner type of so many; a struct that is too large is no fault of its user
abbrev pub is_large : List (Option Extent) → AreaForm → Bool
is_large structs (Cell form) = false
is_large structs Broken = false
is_large structs (Array' count pointer part) = is_large structs part || (nat_le (2 ^ 32) (size_of structs part) || nat_le (2 ^ 32) (count * size_of structs part))
is_large structs (Struct number) = false

-- some elements have a size that is no multiple of their alignment
abbrev pub is_uneven : List (Option Extent) → AreaForm → Bool
is_uneven structs (Cell form) = false
is_uneven structs Broken = false
is_uneven structs (Array' count pointer part) = is_uneven structs part || not (size_of structs part % align_of structs part == 0)
is_uneven structs (Struct number) = false

-- a cell in it has a type that is not stored
abbrev pub has_broken : AreaForm → Bool
has_broken (Cell form) = false
has_broken Broken = true
has_broken (Array' count pointer part) = has_broken part
has_broken (Struct number) = false

-- Structs: fields stand one after another, with no bytes between them but those that are written.
use Rattle.std.specs.Prelude.{ℕ, ◌+◌, ◌%◌, ◌^◌, Bool, true, false, ◌&&◌, ◌||◌, ◌==◌, not, min, nat_le, nat_lt, max, if◌then◌else◌, List, [], ◌∷◌, ◌++◌, Option, None, Some, is_some}
use Rattle.hb_base.specs.declared.name.Name.{Name}
use Rattle.hb_base.specs.declared.place.Place.{Place}
use Rattle.hb_area.specs.declared.form.AreaForm.{AreaForm}
use Rattle.hb_area.specs.declared.form.Extent.{Extent}
use Rattle.hb_area.specs.declared.structs.AreaFault.{AreaFault}
use Rattle.hb_area.specs.declared.structs.AreaFault.TheVariants.{Align, Size, Stride, NotStored}
use Rattle.hb_area.specs.declared.structs.StructPart.{StructPart}
use Rattle.hb_area.specs.declared.structs.StructPart.TheVariants.{Pad, Field}
use Rattle.hb_area.specs.declared.structs.StructForm.{StructForm}
use Rattle.hb_area.specs.declared.structs.FieldSpot.{FieldSpot}
use Rattle.hb_area.specs.Sizes.{is_known, size_of, align_of, is_large, is_uneven, has_broken}

-- 2^32 stands for every number from there on
abbrev pub capped : ℕ → ℕ
capped number = min number (2 ^ 32)

abbrev pub part_known : List (Option Extent) → StructPart → Bool
part_known structs (Pad bytes) = true
part_known structs (Field name place form) = is_known structs form

abbrev pub part_size : List (Option Extent) → StructPart → ℕ
part_size structs (Pad bytes) = bytes
part_size structs (Field name place form) = size_of structs form

-- the offset after a part; none where one before it has an unknown size
abbrev pub offset_after : List (Option Extent) → Option ℕ → StructPart → Option ℕ
offset_after structs None part = None
offset_after structs (Some at) part = if part_known structs part then Some (capped (at + part_size structs part)) else None

abbrev pub end_from : List (Option Extent) → Option ℕ → List StructPart → Option ℕ
end_from structs at [] = at
end_from structs at (part ∷ parts) = end_from structs (offset_after structs at part) parts

-- an offset that is known and below 2^32, and that the alignment does not divide
abbrev pub is_off : Option ℕ → ℕ → Bool
is_off None align = false
is_off (Some at) align = nat_lt at (2 ^ 32) && not (at % align == 0)

-- what is wrong with a field of this type at this offset
abbrev pub form_fault : List (Option Extent) → Option ℕ → AreaForm → Option AreaFault
form_fault structs at form = if is_known structs form then (if is_off at (align_of structs form) then Some Align else (if is_large structs form then Some Size else (if is_uneven structs form then Some Stride else None))) else (if has_broken form then Some NotStored else None)

abbrev pub PlaceFault : Type 0
PlaceFault = Place × AreaFault

abbrev pub at_place : Place → Option AreaFault → Option PlaceFault
at_place place None = None
at_place place (Some fault) = Some (place, fault)

abbrev pub part_fault : List (Option Extent) → Option ℕ → StructPart → Option PlaceFault
part_fault structs at (Pad bytes) = None
part_fault structs at (Field name place form) = at_place place (form_fault structs at form)

-- the first field at which something is wrong, from this offset on
abbrev pub fields_fault : List (Option Extent) → Option ℕ → List StructPart → Option PlaceFault
fields_fault structs at [] = None
fields_fault structs at (part ∷ parts) = if is_some (part_fault structs at part) then part_fault structs at part else fields_fault structs (offset_after structs at part) parts

-- a size that is known is below 2^32, and the one that is written
abbrev pub is_wrong_size : Option ℕ → Option ℕ → Bool
is_wrong_size written None = false
is_wrong_size None (Some size) = nat_le (2 ^ 32) size
is_wrong_size (Some written) (Some size) = nat_le (2 ^ 32) size || not (written == size)

-- the first thing that is wrong with a struct: its size, or else a field
abbrev pub struct_fault : List (Option Extent) → StructForm → Option PlaceFault
struct_fault structs form = if is_wrong_size form.size (end_from structs (Some 0) form.parts) then Some (form.place, Size) else fields_fault structs (Some 0) form.parts

abbrev pub part_align : List (Option Extent) → StructPart → ℕ
part_align structs (Pad bytes) = 1
part_align structs (Field name place form) = align_of structs form

-- the greatest alignment of a field, at least this
abbrev pub greatest_align : List (Option Extent) → ℕ → List StructPart → ℕ
greatest_align structs align [] = align
greatest_align structs align (part ∷ parts) = greatest_align structs (max align (part_align structs part)) parts

-- where a field lies, if it ends below 2^32
abbrev pub spot_at : Name → Name → Option ℕ → ℕ → Bool → List FieldSpot
spot_at owner name None size known = []
spot_at owner name (Some at) size known = if known && nat_lt (at + size) (2 ^ 32) then record { owner = owner; name = name; offset = at; size = size } ∷ [] else []

abbrev pub part_spots : Name → List (Option Extent) → Option ℕ → StructPart → List FieldSpot
part_spots owner structs at (Pad bytes) = []
part_spots owner structs at (Field name place form) = spot_at owner name at (size_of structs form) (is_known structs form)

abbrev pub spots_from : Name → List (Option Extent) → Option ℕ → List StructPart → List FieldSpot
spots_from owner structs at [] = []
spots_from owner structs at (part ∷ parts) = part_spots owner structs at part ++ spots_from owner structs (offset_after structs at part) parts

abbrev pub as_list : Option FieldSpot → List FieldSpot
as_list None = []
as_list (Some spot) = spot ∷ []

-- The widths of bitdata types, and the first one that breaks the rules.
use Rattle.std.specs.Prelude.{ℕ, ◌+◌, Bool, false, ◌&&◌, ◌==◌, nat_le, if◌then◌else◌, List, [], ◌∷◌, Option, Some, None, is_some, is_none, unwrap_or}
use Rattle.hb_base.specs.declared.limits.TheConstants.{BIT_WIDTH}
use Rattle.hb_base.specs.declared.place.Place.{Place}
use Rattle.hb_bitdata.specs.declared.form.PartForm.{PartForm}
use Rattle.hb_bitdata.specs.declared.form.PartForm.TheVariants.{Tag, Field}
use Rattle.hb_bitdata.specs.declared.form.ConForm.{ConForm}
use Rattle.hb_bitdata.specs.declared.form.BitForm.{BitForm}

-- how many bits a part has; a field without width counts as none
abbrev pub part_width : PartForm → ℕ
part_width (Tag width number) = width
part_width (Field name place width) = unwrap_or width 0

abbrev pub parts_width : List PartForm → ℕ
parts_width [] = 0
parts_width (part ∷ parts) = part_width part + parts_width parts

abbrev pub is_range : ℕ → Bool
is_range width = nat_le 1 width && nat_le width BIT_WIDTH

abbrev pub in_range : Option ℕ → Bool
in_range None = false
in_range (Some width) = is_range width

-- the place of the first field whose type has no width, or one out of range
abbrev pub bad_field : List PartForm → Option Place
bad_field [] = None
bad_field (Tag width number ∷ parts) = bad_field parts
bad_field (Field name place width ∷ parts) = if in_range width then bad_field parts else Some place

-- the width that all constructors have to have: the declared one, or else that of the first constructor whose fields
-- all have a width in range
abbrev pub first_width : List ConForm → Option ℕ
first_width [] = None
first_width (con ∷ cons) = if is_none (bad_field con.parts) then Some (parts_width con.parts) else first_width cons

abbrev pub expected_width : BitForm → Option ℕ
expected_width form = if is_some form.width then form.width else first_width form.cons

abbrev pub is_width : Option ℕ → ℕ → Bool
is_width None width = is_range width
is_width (Some expected) width = is_range width && (width == expected)

-- what is wrong with a constructor: a field, or else its own width
abbrev pub con_fault : Option ℕ → ConForm → Option Place
con_fault expected con = if is_some (bad_field con.parts) then bad_field con.parts else (if is_width expected (parts_width con.parts) then None else Some con.place)

-- the first place in the text where something is wrong
abbrev pub cons_fault : Option ℕ → List ConForm → Option Place
cons_fault expected [] = None
cons_fault expected (con ∷ cons) = if is_some (con_fault expected con) then con_fault expected con else cons_fault expected cons

abbrev pub first_fault : BitForm → Option Place
first_fault form = cons_fault (expected_width form) form.cons

-- The bit layout of a bitdata type: the parts of a constructor stand from the most significant bit down.
use Rattle.std.specs.Prelude.{◌≡◌, ℕ, List, [], ◌∷◌, ◌++◌, map, replicate, unwrap_or}
use Rattle.std.specs.List.{flat_map}
use Rattle.hb_base.specs.declared.name.Name.{Name}
use Rattle.hb_bits.specs.Bits.{digits}
use Rattle.hb_bits.specs.Members.{Member}
use Rattle.hb_bits.specs.Members.Member.{Fixed, Free}
use Rattle.hb_bits.specs.OfCube.{members_of}
use Rattle.hb_bitdata.specs.declared.form.PartForm.{PartForm}
use Rattle.hb_bitdata.specs.declared.form.PartForm.TheVariants.{Tag, Field}
use Rattle.hb_bitdata.specs.declared.form.ConForm.{ConForm}
use Rattle.hb_bitdata.specs.declared.form.BitForm.{BitForm}
use Rattle.hb_bitdata.specs.declared.place.FieldPlace.{FieldPlace}
use Rattle.hb_bitdata.specs.declared.con.ConLayout.{ConLayout}
use Rattle.hb_bitdata.specs.declared.layout.BitLayout.{BitLayout}
use Rattle.hb_bitdata.specs.Widths.{parts_width}

-- the bits of a tag are fixed, and those of a field are free
abbrev pub part_members : PartForm → List Member
part_members (Tag width number) = map Fixed (digits width number)
part_members (Field name place width) = replicate (unwrap_or width 0) Free

abbrev pub parts_members : List PartForm → List Member
parts_members parts = flat_map part_members parts

-- the place of a part that is a field, with so many bits after it
abbrev pub place_of : PartForm → ℕ → List FieldPlace
place_of (Tag width number) at = []
place_of (Field name place width) at = record { name = name; at = at; width = unwrap_or width 0 } ∷ []

-- a field has the bits of the parts after it below it
abbrev pub places : List PartForm → List FieldPlace
places [] = []
places (part ∷ parts) = place_of part (parts_width parts) ++ places parts

pub record Laid : Type 0 where
  pub name : Name
  pub members : List Member
  pub fields : List FieldPlace

abbrev pub laid : ConForm → Laid
laid con = record { name = con.name; members = parts_members con.parts; fields = places con.parts }

-- what a layout shows of a constructor
abbrev pub shown : ConLayout → Laid
shown con = record { name = con.name; members = members_of con.cube; fields = con.fields }

-- the width of the first constructor
abbrev pub width_of : List ConForm → ℕ
width_of [] = 0
width_of (con ∷ cons) = parts_width con.parts

-- all constructors have this width
abbrev pub AreWide : ℕ → List ConForm → Type 0
AreWide width [] = Unit {0}
AreWide width (con ∷ cons) = (parts_width con.parts ≡ width) × AreWide width cons

pub record IsLayout (form : BitForm) (layout : BitLayout) : Type 0 where
  pub width : layout.width ≡ width_of form.cons
  pub cons : map shown layout.cons ≡ map laid form.cons

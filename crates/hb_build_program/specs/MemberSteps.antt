-- How a node changes the small parts of declarations and the members of types and classes. Where the parts of a node are
-- not there, no program has such nodes.
use Rattle.std.specs.Prelude.{ℕ, List, [], ◌∷◌, Option, Some, None}
use Rattle.hb_base.specs.declared.place.Place.{Place}
use Rattle.hb_base.specs.declared.name.Name.{Name}
use Rattle.hb_tree.specs.declared.types.NameAt.{NameAt}
use Rattle.hb_tree.specs.declared.types.Sig.{Sig}
use Rattle.hb_tree.specs.declared.declaration.FieldDecl.{FieldDecl}
use Rattle.hb_tree.specs.declared.declaration.DataCon.{DataCon}
use Rattle.hb_tree.specs.declared.declaration.BitPart.{BitPart}
use Rattle.hb_tree.specs.declared.declaration.BitPart.TheVariants as bit_part
use Rattle.hb_tree.specs.declared.declaration.StructPart.TheVariants as struct_part
use Rattle.hb_tree.specs.declared.declaration.Depend.{Depend}
use Rattle.hb_build_program.specs.declared.parts.Heads.{Heads}
use Rattle.hb_build_program.specs.declared.parts.Members.{Members}
use Rattle.hb_build_program.specs.States.{heads, members}

-- one name more
abbrev pub with_name : Heads → Place → Name → Heads
with_name h place name = heads (record { place = place; name = name } ∷ h.names) h.lists h.numbers h.types h.supers

-- the last names become a list
abbrev pub of_names : Heads → Option (List NameAt × List NameAt) → Option Heads
of_names h None = None
of_names h (Some names) = Some (heads names.1 (names.0 ∷ h.lists) h.numbers h.types h.supers)

-- a number, or that it is left out
abbrev pub with_number : Heads → Option ℕ → Heads
with_number h number = heads h.names h.lists (number ∷ h.numbers) h.types h.supers

abbrev pub with_names : Heads → List NameAt → Heads
with_names h names = heads names h.lists h.numbers h.types h.supers

abbrev pub with_lists : Heads → List (List NameAt) → Heads
with_lists h lists = heads h.names lists h.numbers h.types h.supers

abbrev pub with_sig : Members → Sig → Members
with_sig m sig = members (sig ∷ m.sigs) m.cons m.fields m.bit_parts m.bit_cons m.struct_parts m.depends

abbrev pub with_con : Members → DataCon → Members
with_con m con = members m.sigs (con ∷ m.cons) m.fields m.bit_parts m.bit_cons m.struct_parts m.depends

abbrev pub with_fields : Members → FieldDecl → Members
with_fields m fields = members m.sigs m.cons (fields ∷ m.fields) m.bit_parts m.bit_cons m.struct_parts m.depends

abbrev pub with_depend : Members → Depend → Members
with_depend m depend = members m.sigs m.cons m.fields m.bit_parts m.bit_cons m.struct_parts (depend ∷ m.depends)

-- fixed bits are a part
abbrev pub with_tag : Members → ℕ → ℕ → Members
with_tag m width k = members m.sigs m.cons m.fields (bit_part.Tag width k ∷ m.bit_parts) m.bit_cons m.struct_parts m.depends

-- the last fields become a part of a bitdata constructor
abbrev pub of_bit_fields : Members → List FieldDecl → Option Members
of_bit_fields m (f ∷ fields) = Some (members m.sigs m.cons fields (bit_part.Fields f ∷ m.bit_parts) m.bit_cons m.struct_parts m.depends)
of_bit_fields m [] = None

-- the last parts become a bitdata constructor of this name
abbrev pub with_bit_con : Members → NameAt → List BitPart × List BitPart → Members
with_bit_con m name parts = members m.sigs m.cons m.fields parts.1 (record { name = name; parts = parts.0 } ∷ m.bit_cons) m.struct_parts m.depends

-- bytes without a name are a part
abbrev pub with_pad : Members → ℕ → Members
with_pad m k = members m.sigs m.cons m.fields m.bit_parts m.bit_cons (struct_part.Pad k ∷ m.struct_parts) m.depends

-- the last fields become a part of a struct
abbrev pub of_struct_fields : Members → List FieldDecl → Option Members
of_struct_fields m (f ∷ fields) = Some (members m.sigs m.cons fields m.bit_parts m.bit_cons (struct_part.Fields f ∷ m.struct_parts) m.depends)
of_struct_fields m [] = None

-- Tables of types: each node is an unknown, an atom, or an application of two earlier nodes.
use Rattle.std.specs.Prelude.{◌≡◌, ℕ, ◌+◌, ◌<◌, ◌-◌, List, [], ◌++◌, length, slice_index_or}
use Rattle.hb_types.specs.declared.table.Form.{Form}
use Rattle.hb_types.specs.declared.table.Form.TheVariants as form
use Rattle.hb_types.specs.Made.{made_from, AreLaidBy}
use Rattle.hb_types.specs.Types.{Ty, Unknown, Leaf, Apply}

-- the type at a place of a table
abbrev pub type_at : List Ty → ℕ → Ty
type_at ts place = slice_index_or ts place (Unknown 0)

-- the type of a form, with its parts from the table
abbrev pub built : List Ty → Form → Ty
built ts (form.Unknown n) = Unknown n
built ts (form.Leaf a) = Leaf a
built ts (form.Apply f x) = Apply (type_at ts f) (type_at ts x)

-- the types of forms, one after another
abbrev pub types_of : List Form → List Ty
types_of ns = made_from built [] ns

-- the parts of a form stand before a place
abbrev pub HasPartsBelow : ℕ → Form → Type 0
HasPartsBelow place (form.Unknown n) = Unit {0}
HasPartsBelow place (form.Leaf a) = Unit {0}
HasPartsBelow place (form.Apply f x) = (f < place) × (x < place)

abbrev pub form_at : List Form → ℕ → Form
form_at ns place = slice_index_or ns place (form.Unknown 0)

-- each form stands after its parts
abbrev pub AreLaid : List Form → Type 0
AreLaid ns = AreLaidBy HasPartsBelow (form.Unknown 0) ns

-- the last type of a table
abbrev pub last_type : List Ty → Ty
last_type ts = type_at ts (length ts - 1)

-- a form with its parts so many places further on
abbrev pub moved : ℕ → Form → Form
moved by (form.Unknown n) = form.Unknown n
moved by (form.Leaf a) = form.Leaf a
moved by (form.Apply f x) = form.Apply (f + by) (x + by)

-- a table with more types at its end
abbrev pub Extends : List Ty → List Ty → Type 0
Extends old new = (more : List Ty) × (new ≡ old ++ more)

-- a place of a table, at which the type is as P says
abbrev pub IsPlaced : List Ty → ℕ → (Ty → Type 0) → Type 0
IsPlaced table place P = (place < length table) × P (type_at table place)

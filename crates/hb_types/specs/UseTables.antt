-- Tables of uses of instances: each node has an instance, types by their places in a table of types, and earlier nodes.
use Rattle.std.specs.Prelude.{ℕ, ◌<◌, ◌-◌, List, [], length, map, slice_index, slice_index_or}
use Rattle.hb_types.specs.declared.instance_use.UseForm.{UseForm}
use Rattle.hb_types.specs.Made.{made_from, AreLaidBy}
use Rattle.hb_types.specs.Types.{Ty}
use Rattle.hb_types.specs.Put.{types_at, ArePlaces}
use Rattle.hb_types.specs.Uses.{InstanceUse, AUse, NoUses, uses}

-- the use at a place of a table
abbrev pub use_at : List InstanceUse → ℕ → InstanceUse
use_at us place = slice_index_or us place (AUse 0 [] NoUses)

-- the use of a form, with its types and its context from the tables
abbrev pub use_built : List Ty → List InstanceUse → UseForm → InstanceUse
use_built types us n = AUse n.instance (types_at types n.types) (uses (map (use_at us) n.context))

-- the uses of forms, one after another
abbrev pub uses_of : List Ty → List UseForm → List InstanceUse
uses_of types ns = made_from (use_built types) [] ns

-- the last use of a table
abbrev pub last_use : List InstanceUse → InstanceUse
last_use us = use_at us (length us - 1)

-- the context of a form stands before a place
abbrev pub HasContextBelow : ℕ → UseForm → Type 0
HasContextBelow place n = (k : ℕ) → k < length n.context → slice_index n.context k < place

abbrev pub no_use : UseForm
no_use = record { instance = 0; types = []; context = [] }

abbrev pub use_form_at : List UseForm → ℕ → UseForm
use_form_at ns place = slice_index_or ns place no_use

-- each form stands after its context, and its types stand in the table of types
pub record AreUses (types : List Ty) (ns : List UseForm) : Type 0 where
  pub laid : AreLaidBy HasContextBelow no_use ns
  pub typed : (place : ℕ) → ArePlaces types (use_form_at ns place).types

-- Tables of kinds: each node is a kind without parts, or an arrow between two earlier nodes.
use Rattle.std.specs.Prelude.{ℕ, ◌+◌, ◌<◌, List, [], Option, Some, None, slice_index_or}
use Rattle.hb_types.specs.declared.kind_table.KindForm.{KindForm}
use Rattle.hb_types.specs.declared.kind_table.KindForm.TheVariants as form
use Rattle.hb_types.specs.Made.{made_from, AreLaidBy}
use Rattle.hb_types.specs.Kinds.{Kind, Star, Nat, Area, Arrow}

-- the kind at a place of a table
abbrev pub kind_at : List Kind → ℕ → Kind
kind_at ks place = slice_index_or ks place Star

-- the kind of a form, with its parts from the table
abbrev pub kind_built : List Kind → KindForm → Kind
kind_built ks form.Star = Star
kind_built ks form.Nat = Nat
kind_built ks form.Area = Area
kind_built ks (form.Arrow a b) = Arrow (kind_at ks a) (kind_at ks b)

-- the kinds of forms, one after another
abbrev pub kinds_of : List KindForm → List Kind
kinds_of ns = made_from kind_built [] ns

-- the parts of a form stand before a place
abbrev pub HasKindsBelow : ℕ → KindForm → Type 0
HasKindsBelow place form.Star = Unit {0}
HasKindsBelow place form.Nat = Unit {0}
HasKindsBelow place form.Area = Unit {0}
HasKindsBelow place (form.Arrow a b) = (a < place) × (b < place)

abbrev pub kind_form_at : List KindForm → ℕ → KindForm
kind_form_at ns place = slice_index_or ns place form.Star

-- each form stands after its parts
abbrev pub AreKindsLaid : List KindForm → Type 0
AreKindsLaid ns = AreLaidBy HasKindsBelow form.Star ns

-- a form with its parts so many places further on
abbrev pub moved_kind : ℕ → KindForm → KindForm
moved_kind by form.Star = form.Star
moved_kind by form.Nat = form.Nat
moved_kind by form.Area = form.Area
moved_kind by (form.Arrow a b) = form.Arrow (a + by) (b + by)

-- the kinds of a table, and none where there is no table
abbrev pub kinds_in : Option (List Kind) → List Kind
kinds_in None = []
kinds_in (Some ks) = ks

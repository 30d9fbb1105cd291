-- Where a program first leaves the second form.
use Rattle.std.specs.Prelude.{◌≡◌, ℕ, List, [], ◌∷◌, ◌++◌}
use Rattle.hb_base.specs.declared.place.Place.{Place}
use Rattle.hb_tree.specs.declared.declaration.Program.{Program}
use Rattle.hb_second.specs.declared.source.Source.{Source}
use Rattle.hb_second.specs.declared.reading.FormError.{FormError}
use Rattle.hb_second.specs.declared.reading.FormError.TheVariants.{Form as NoForm, Memory}
use Rattle.hb_second.specs.Items.{Item, Placed, items_of, without_places}
use Rattle.hb_second.specs.Form.{Form}

-- some source begins with these items
pub record CanGoOn (items : List Item) : Type 0 where
  pub rest : List Item
  pub source : Source
  pub form : Form (items ++ rest) source

-- the first item that cannot stand is at this place; where each could go on, it is the place of the end
pub data FirstWrongOf (items : List Placed) (end place : Place) : Type 0 where
  at_item : (before after : List Placed) (x : Placed) → items ≡ before ++ x ∷ after → CanGoOn (without_places before) → ¬ CanGoOn (without_places before ++ x.item ∷ []) → place ≡ x.place → FirstWrongOf items end place
  at_end : CanGoOn (without_places items) → ((source : Source) → ¬ Form (without_places items) source) → place ≡ end → FirstWrongOf items end place

abbrev pub FirstWrong : List (List ℕ) → Program → Place → Place → Type 0
FirstWrong names program end place = FirstWrongOf (items_of names program) end place

-- what holds of the place of a refusal, where this is one
abbrev pub IfForm : (Place → Type 0) → FormError → Type 0
IfForm P (NoForm place) = P place
IfForm P Memory = Unit {0}

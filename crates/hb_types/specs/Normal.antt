-- For each place of a table the first place with the same type.
use Rattle.std.specs.Prelude.{◌≡◌, ℕ, ◌<◌, ◌≤◌, ◌↔◌, List, length, slice_index}
use Rattle.hb_types.specs.declared.table.Form.{Form}
use Rattle.hb_types.specs.declared.table.Form.TheVariants as form
use Rattle.hb_types.specs.Types.{Ty}
use Rattle.hb_types.specs.Tables.{type_at}

-- a form with other places of its parts
abbrev pub normal_form : List ℕ → Form → Form
normal_form first (form.Unknown n) = form.Unknown n
normal_form first (form.Leaf a) = form.Leaf a
normal_form first (form.Apply f x) = form.Apply (slice_index first f) (slice_index first x)

-- the type stands first at this place
pub record IsFirst (table : List Ty) (t : Ty) (place : ℕ) : Type 0 where
  pub inside : place < length table
  pub is : type_at table place ≡ t
  pub least : (k : ℕ) → k < length table → type_at table k ≡ t → place ≤ k

pub record AreFirstBelow (count : ℕ) (table : List Ty) (places : List ℕ) : Type 0 where
  pub size : length places ≡ count
  pub each : (k : ℕ) → k < count → IsFirst table (type_at table k) (slice_index places k)

-- for each place the first one with the same type, so that types are the same where these are
pub record AreFirst (table : List Ty) (places : List ℕ) : Type 0 where
  pub first : AreFirstBelow (length table) table places
  pub alike : (a b : ℕ) → a < length table → b < length table → (slice_index places a ≡ slice_index places b) ↔ (type_at table a ≡ type_at table b)

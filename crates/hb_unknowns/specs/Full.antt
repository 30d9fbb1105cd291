-- Types in which each unknown that the equations force is replaced.
use Rattle.std.specs.Prelude.{◌≡◌, ℕ, ◌<◌, ◌⊎◌, List, ◌++◌, length, slice_index, slice_index_or, false, MatchBool}
use Rattle.hb_types.specs.Finite.{Finite}
use Rattle.hb_types.specs.Types.{Ty, Unknown, Leaf, Apply}
use Rattle.hb_types.specs.Tables.{type_at, IsPlaced}
use Rattle.hb_types.specs.Instance.{instance, EachUnknown, IsKnown}
use Rattle.hb_unknowns.specs.declared.node.Entry.{Entry}
use Rattle.hb_unknowns.specs.declared.node.Node.TheVariants.{Free}
use Rattle.hb_unknowns.specs.declared.full.Found.{Found}
use Rattle.hb_unknowns.specs.Joined.{at}
use Rattle.hb_unknowns.specs.Graph.{Obeys}
use Rattle.hb_unknowns.specs.Order.{Member, AreSorted, AllBelow}
use Rattle.hb_unknowns.specs.Equations.{Equations, Solves, type_count}

-- all that make the equations true give the unknown k one and the same type
abbrev pub IsForced : Equations → ℕ → Type 0
IsForced e k = (c : Finite) × ((s : ℕ → Finite) → Solves s e → s k ≡ c)

abbrev pub IsUnforced : Equations → ℕ → Type 0
IsUnforced e k = IsForced e k → ⊥

-- the same type wherever the equations are true
abbrev pub IsSame : Equations → Ty → Ty → Type 0
IsSame e t r = (s : ℕ → Finite) → Solves s e → instance s r ≡ instance s t

-- r is t with each unknown that is forced to a type without unknowns replaced by that type, and every other kept
abbrev pub Replaced : Equations → Ty → Ty → Type 0
Replaced e (Unknown n) r = (IsKnown r × IsSame e (Unknown n) r) ⊎ (IsUnforced e n × (r ≡ Unknown n))
Replaced e (Leaf a) r = r ≡ Leaf a
Replaced e (Apply f x) r = (g y : Ty) × (r ≡ Apply g y) × Replaced e f g × Replaced e x y

pub record IsFull (e : Equations) (t r : Ty) : Type 0 where
  pub replaced : Replaced e t r
  pub same : IsSame e t r
  pub unforced : EachUnknown (IsUnforced e) r

-- no one type is at the node in all that obey the graph
abbrev pub IsOpen : List Entry → ℕ → Type 0
IsOpen nodes place = (c : Finite) → ((v : ℕ → Finite) → Obeys v nodes → v place ≡ c) → ⊥

-- nothing is known of the node
abbrev pub IsFreeNode : List Entry → ℕ → Type 0
IsFreeNode nodes node = (node < length nodes) × (at nodes node ≡ Free)

-- the type that was found for a node, and whether it has no unknowns: those that it has are free nodes
pub record IsFound (nodes : List Entry) (table : List Ty) (node : ℕ) (found : Found) : Type 0 where
  pub inside : found.place < length table
  pub means : (v : ℕ → Finite) → Obeys v nodes → v node ≡ instance v (type_at table found.place)
  pub known : MatchBool found.known (IsKnown (type_at table found.place)) (IsOpen nodes node)
  pub free : EachUnknown (IsFreeNode nodes) (type_at table found.place)

-- every node once its parts are there
pub record IsOrder (nodes : List Entry) (order : List ℕ) : Type 0 where
  pub sorted : AreSorted nodes order
  pub within : AllBelow (length nodes) order
  pub whole : (k : ℕ) → k < length nodes → Member k order

abbrev pub found_at : List Found → ℕ → Found
found_at found node = slice_index_or found node (record { place = 0; known = false })

pub record AreFound (nodes : List Entry) (table : List Ty) (found : List Found) : Type 0 where
  pub each : (k : ℕ) → k < length nodes → IsFound nodes table k (found_at found k)

-- the places before one have their full types
pub record AreFullBelow (e : Equations) (count : ℕ) (table : List Ty) (places : List ℕ) : Type 0 where
  pub size : length places ≡ count
  pub each : (k : ℕ) → k < count → IsPlaced table (slice_index places k) (IsFull e (type_at e.types k))

-- for each place its full type in a table, by its place there
abbrev pub AreFull : Equations → List Ty → List ℕ → Type 0
AreFull e table places = AreFullBelow e (type_count e) table places

-- Types in the place of variables.
use Rattle.std.specs.Prelude.{◌≡◌, ℕ, ◌<◌, List, [], ◌∷◌, length, map, slice_index, slice_index_or}
use Rattle.hb_types.specs.declared.atom.Atom.{Atom}
use Rattle.hb_types.specs.declared.atom.Atom.TheVariants.{Var, Con, Nat}
use Rattle.hb_types.specs.Types.{Ty, Unknown, Leaf, Apply}
use Rattle.hb_types.specs.Tables.{type_at, IsPlaced}

-- the type for a variable, by its place among the variables
abbrev pub type_for : List Ty → ℕ → Ty
type_for ts v = slice_index_or ts v (Unknown 0)

abbrev pub put_atom : List Ty → Atom → Ty
put_atom ts (Var v) = type_for ts v
put_atom ts (Con c) = Leaf (Con c)
put_atom ts (Nat n) = Leaf (Nat n)

-- a type with a type in the place of each variable
abbrev pub put : List Ty → Ty → Ty
put ts (Unknown n) = Unknown n
put ts (Leaf a) = put_atom ts a
put ts (Apply f x) = Apply (put ts f) (put ts x)

abbrev pub puts : List Ty → List Ty → List Ty
puts ts [] = []
puts ts (t ∷ us) = put ts t ∷ puts ts us

-- the types at places of a table
abbrev pub types_at : List Ty → List ℕ → List Ty
types_at table places = map (type_at table) places

abbrev pub ArePlaces : List Ty → List ℕ → Type 0
ArePlaces table places = (k : ℕ) → k < length places → slice_index places k < length table

-- for each of the first types of a list, the place of a table at which it stands with the arguments in the place of its
-- variables
pub record ArePutBelow (count : ℕ) (args of table : List Ty) (places : List ℕ) : Type 0 where
  pub size : length places ≡ count
  pub each : (k : ℕ) → k < count → IsPlaced table (slice_index places k) (λ t. t ≡ put args (type_at of k))

abbrev pub ArePut : List Ty → List Ty → List Ty → List ℕ → Type 0
ArePut args of table places = ArePutBelow (length of) args of table places

-- a variable is one of those before one
abbrev pub HasVarBelow : ℕ → Atom → Type 0
HasVarBelow count (Var v) = v < count
HasVarBelow count (Con c) = Unit {0}
HasVarBelow count (Nat n) = Unit {0}

-- it has no unknowns, and its variables are those before one
abbrev pub HasVarsBelow : ℕ → Ty → Type 0
HasVarsBelow count (Unknown n) = ⊥
HasVarsBelow count (Leaf a) = HasVarBelow count a
HasVarsBelow count (Apply f x) = HasVarsBelow count f × HasVarsBelow count x

-- The equations that were taken in: which finite types for the unknowns make them true.
use Rattle.std.specs.Prelude.{◌≡◌, ℕ, ◌<◌, ◌↔◌, List, [], ◌∷◌, ◌++◌, length}
use Rattle.hb_types.specs.declared.table.Form.{Form}
use Rattle.hb_types.specs.declared.table.Form.TheVariants as form
use Rattle.hb_types.specs.Finite.{Finite}
use Rattle.hb_types.specs.Instance.{instance, values}
use Rattle.hb_types.specs.Types.{Ty, Unknown}
use Rattle.hb_types.specs.Tables.{type_at, Extends}
use Rattle.hb_unknowns.specs.declared.node.Entry.{Entry}
use Rattle.hb_unknowns.specs.declared.node.Node.{Node}
use Rattle.hb_unknowns.specs.declared.node.Node.TheVariants.{Free, Leaf, Apply}
use Rattle.hb_unknowns.specs.declared.node.Pair.{Pair}
use Rattle.hb_unknowns.specs.declared.error.EquateError.{EquateError}
use Rattle.hb_unknowns.specs.declared.error.EquateError.TheVariants.{Clash, Memory}
use Rattle.hb_unknowns.specs.Graph.{Obeys, IsGraph, Agree}

-- the type at each place, and what is known of the nodes
pub record Equations : Type 0 where
  pub types : List Ty
  pub entries : List Entry

-- how many types there are: they are named by their places
abbrev pub type_count : Equations → ℕ
type_count e = length e.types

-- with s for the unknowns, all equations that were taken in are true
abbrev pub Solves : (ℕ → Finite) → Equations → Type 0
Solves s e = Obeys (values s e.types) e.entries

-- whatever obeys the graph has at each place the type that stands there, and an unknown stands at its own place
pub record IsSound (e : Equations) : Type 0 where
  pub graph : IsGraph e.entries
  pub size : length e.types ≡ length e.entries
  pub means : (v : ℕ → Finite) → Obeys v e.entries → (k : ℕ) → k < length e.types → v k ≡ instance v (type_at e.types k)
  pub solution : (v : ℕ → Finite) × Obeys v e.entries
  pub own : (k n : ℕ) → k < length e.types → type_at e.types k ≡ Unknown n → n ≡ k

abbrev pub equations : List Ty → List Entry → Equations
equations types entries = record { types = types; entries = entries }

-- an unknown bears the number of its place
abbrev pub IsOwn : ℕ → Form → Type 0
IsOwn place (form.Unknown n) = n ≡ place
IsOwn place (form.Leaf a) = Unit {0}
IsOwn place (form.Apply f x) = Unit {0}

-- one more type, which changes nothing that was said
pub record IsPut (old new : Equations) (t : Ty) (place : ℕ) : Type 0 where
  pub next : place ≡ type_count old
  pub types : new.types ≡ old.types ++ t ∷ []
  pub same : (s : ℕ → Finite) → Solves s new ↔ Solves s old

-- more types, which change nothing that was said
pub record IsGrown (old new : Equations) : Type 0 where
  pub types : Extends old.types new.types
  pub same : (s : ℕ → Finite) → Solves s new ↔ Solves s old

-- the types at two places are the same, for each of the pairs
abbrev pub AreEqual : (ℕ → Finite) → List Ty → List Pair → Type 0
AreEqual s types [] = Unit {0}
AreEqual s types (p ∷ ps) = (instance s (type_at types p.left) ≡ instance s (type_at types p.right)) × AreEqual s types ps

-- more equations, and there are types that make all true
pub record AreEquated (old : Equations) (pairs : List Pair) (new : Equations) : Type 0 where
  pub types : new.types ≡ old.types
  pub same : (s : ℕ → Finite) → Solves s new ↔ (Solves s old × AreEqual s old.types pairs)
  pub solution : (s : ℕ → Finite) × Solves s new

-- one more equation
pub record IsEquated (old : Equations) (a b : ℕ) (new : Equations) : Type 0 where
  pub types : new.types ≡ old.types
  pub same : (s : ℕ → Finite) → Solves s new ↔ (Solves s old × (instance s (type_at old.types a) ≡ instance s (type_at old.types b)))
  pub solution : (s : ℕ → Finite) × Solves s new

-- no finite types make the equations so far and these true
abbrev pub HaveNoSolution : Equations → List Pair → Type 0
HaveNoSolution e pairs = (s : ℕ → Finite) → Solves s e → AreEqual s e.types pairs → ⊥

abbrev pub HasNoSolution : Equations → ℕ → ℕ → Type 0
HasNoSolution e a b = (s : ℕ → Finite) → Solves s e → instance s (type_at e.types a) ≡ instance s (type_at e.types b) → ⊥

abbrev pub OnClash : EquateError → Type 0 → Type 0
OnClash Clash claim = claim
OnClash Memory claim = Unit {0}

-- the new graph says what the old one said with the equations that waited, and has types
pub record IsTaken (old : List Entry) (waiting : List Pair) (new : List Entry) : Type 0 where
  pub graph : IsGraph new
  pub size : length new ≡ length old
  pub same : (v : ℕ → Finite) → (Obeys v old × Agree v waiting) ↔ Obeys v new
  pub solution : (v : ℕ → Finite) × Obeys v new

-- what the graph knows of a type at first
abbrev pub node_of : Form → Node
node_of (form.Unknown n) = Free
node_of (form.Leaf a) = Leaf a
node_of (form.Apply f x) = Apply f x

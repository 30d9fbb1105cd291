-- A graph of nodes, and which finite types at its nodes make true what it says.
use Rattle.std.specs.Prelude.{◌≡◌, ℕ, ◌+◌, ◌*◌, ◌<◌, ◌⊎◌, ◌↔◌, List, [], ◌∷◌, length}
use Rattle.std.specs.List.{sum_by}
use Rattle.hb_unknowns.specs.declared.node.Entry.{Entry}
use Rattle.hb_unknowns.specs.declared.node.Node.{Node}
use Rattle.hb_unknowns.specs.declared.node.Node.TheVariants.{Free, Link, Leaf, Apply}
use Rattle.hb_unknowns.specs.declared.node.Pair.{Pair}
use Rattle.hb_types.specs.Finite.{Finite, Single, Applied}
use Rattle.hb_unknowns.specs.Joined.{at, level_at}

-- the type t is as a node says
abbrev pub Says : (ℕ → Finite) → Finite → Node → Type 0
Says v t Free = Unit {0}
Says v t (Link j) = t ≡ v j
Says v t (Leaf a) = t ≡ Single a
Says v t (Apply f x) = t ≡ Applied (v f) (v x)

pub record Obeys (v : ℕ → Finite) (nodes : List Entry) : Type 0 where
  pub each : (k : ℕ) → Says v (v k) (at nodes k)

-- a node stands above another one: its level is lower, or the same where it is earlier
abbrev pub IsAbove : List Entry → ℕ → ℕ → Type 0
IsAbove entries j k = (level_at entries j < level_at entries k) ⊎ ((level_at entries j ≡ level_at entries k) × (j < k))

-- nodes speak of nodes of the graph, and links lead up
abbrev pub Within : List Entry → ℕ → Node → Type 0
Within entries k Free = Unit {0}
Within entries k (Link j) = (j < length entries) × IsAbove entries j k
Within entries k (Leaf a) = Unit {0}
Within entries k (Apply f x) = (f < length entries) × (x < length entries)

pub record IsGraph (nodes : List Entry) : Type 0 where
  pub inside : (k : ℕ) → Within nodes k (at nodes k)

abbrev pub IsRoot : Node → Type 0
IsRoot Free = Unit {0}
IsRoot (Link j) = ⊥
IsRoot (Leaf a) = Unit {0}
IsRoot (Apply f x) = Unit {0}

abbrev pub AreWithin : ℕ → List Pair → Type 0
AreWithin size [] = Unit {0}
AreWithin size (p ∷ ps) = ((p.left < size) × (p.right < size)) × AreWithin size ps

abbrev pub Agree : (ℕ → Finite) → List Pair → Type 0
Agree v [] = Unit {0}
Agree v (p ∷ ps) = (v p.left ≡ v p.right) × Agree v ps

abbrev pub one_root : Node → ℕ
one_root Free = 1
one_root (Link j) = 0
one_root (Leaf a) = 1
one_root (Apply f x) = 1

-- what is left to do: each turn makes it less
abbrev pub work : List Entry → List Pair → ℕ
work nodes pending = 2 * sum_by (λ e. one_root e.node) nodes + length pending

-- the equation of two nodes was taken in: what the graph and the equations that wait say is the same
pub record Turned (left right : ℕ) (old : List Entry) (waiting : List Pair) (new : List Entry) (left_over : List Pair) : Type 0 where
  pub graph : IsGraph new
  pub size : length new ≡ length old
  pub within : AreWithin (length new) left_over
  pub less : work new left_over < work old waiting + 1
  pub same : (v : ℕ → Finite) → (Obeys v old × (v left ≡ v right) × Agree v waiting) ↔ (Obeys v new × Agree v left_over)

-- no types obey the graph and are the same at both nodes
abbrev pub Clashes : ℕ → ℕ → List Entry → Type 0
Clashes left right nodes = (v : ℕ → Finite) → Obeys v nodes → v left ≡ v right → ⊥

-- as far as the equations that waited were taken in
pub record Met (old : List Entry) (waiting : List Pair) (new : List Entry) (left_over : List Pair) : Type 0 where
  pub graph : IsGraph new
  pub size : length new ≡ length old
  pub within : AreWithin (length new) left_over
  pub same : (v : ℕ → Finite) → (Obeys v old × Agree v waiting) ↔ (Obeys v new × Agree v left_over)

-- the new graph says what the old one said with the equations that waited
pub record Unified (old : List Entry) (waiting : List Pair) (new : List Entry) : Type 0 where
  pub graph : IsGraph new
  pub size : length new ≡ length old
  pub same : (v : ℕ → Finite) → (Obeys v old × Agree v waiting) ↔ Obeys v new

abbrev pub IsImpossible : List Entry → List Pair → Type 0
IsImpossible nodes waiting = (v : ℕ → Finite) → Obeys v nodes → Agree v waiting → ⊥

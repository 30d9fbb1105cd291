-- Of which nodes others speak.
use Rattle.std.specs.Prelude.{◌≡◌, ℕ, List, Bool, true, length, slice_index_or}
use Rattle.hb_types.specs.Finite.{Finite}
use Rattle.hb_unknowns.specs.declared.node.Entry.{Entry}
use Rattle.hb_unknowns.specs.declared.node.Node.TheVariants.{Free}
use Rattle.hb_unknowns.specs.declared.node.Pair.{Pair}
use Rattle.hb_unknowns.specs.Joined.{at}
use Rattle.hb_unknowns.specs.Graph.{Obeys, Agree}
use Rattle.hb_unknowns.specs.Order.{IsPart}

-- the flag of a node
abbrev pub flag_at : List Bool → ℕ → Bool
flag_at flags place = slice_index_or flags place true

-- each node of which another one speaks has its flag
pub record AreReferred (nodes : List Entry) (flags : List Bool) : Type 0 where
  pub size : length flags ≡ length nodes
  pub each : (k p : ℕ) → IsPart p (at nodes k) → flag_at flags p ≡ true

-- no flag was taken back
pub record AreRaised (old new : List Bool) : Type 0 where
  pub size : length new ≡ length old
  pub kept : (p : ℕ) → flag_at old p ≡ true → flag_at new p ≡ true

-- nothing is known of the node, and no node speaks of it
pub record IsLoose (nodes : List Entry) (place : ℕ) : Type 0 where
  pub is_free : at nodes place ≡ Free
  pub alone : (k : ℕ) → IsPart place (at nodes k) → ⊥

-- where types obey the graph, others obey it and make the equations true
abbrev pub IsHarmless : List Entry → List Pair → Type 0
IsHarmless nodes pairs = (w : ℕ → Finite) → Obeys w nodes → (v : ℕ → Finite) × Obeys v nodes × Agree v pairs

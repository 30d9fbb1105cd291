-- Types in which each unknown that was equated is replaced as far as it is known, and of several open ones one stands
-- for all.
use Rattle.std.specs.Prelude.{◌≡◌, ℕ, ◌<◌, List, length, slice_index}
use Rattle.hb_types.specs.Finite.{Finite}
use Rattle.hb_types.specs.Types.{Ty}
use Rattle.hb_types.specs.Tables.{type_at}
use Rattle.hb_types.specs.Instance.{instance, EachUnknown}
use Rattle.hb_unknowns.specs.declared.node.Entry.{Entry}
use Rattle.hb_unknowns.specs.Graph.{Obeys}
use Rattle.hb_unknowns.specs.Equations.{Equations, Solves, type_count}
use Rattle.hb_unknowns.specs.Full.{IsFreeNode, IsSame}

-- the type at a place is that of the node, and its unknowns are free nodes
pub record IsNodeType (nodes : List Entry) (table : List Ty) (node place : ℕ) : Type 0 where
  pub inside : place < length table
  pub means : (v : ℕ → Finite) → Obeys v nodes → v node ≡ instance v (type_at table place)
  pub free : EachUnknown (IsFreeNode nodes) (type_at table place)

-- the first nodes have their types
pub record AreNodeTypes (nodes : List Entry) (count : ℕ) (table : List Ty) (places : List ℕ) : Type 0 where
  pub size : length places ≡ count
  pub each : (k : ℕ) → k < count → IsNodeType nodes table k (slice_index places k)

-- For each place its normal type in a table, by its place there: the same type wherever the equations are true; whatever
-- stands for the unknowns of normal types is a solution; so two places have one normal type where they have the same
-- type in all solutions.
pub record AreNormal (e : Equations) (table : List Ty) (places : List ℕ) : Type 0 where
  pub size : length places ≡ type_count e
  pub inside : (k : ℕ) → k < type_count e → slice_index places k < length table
  pub same : (k : ℕ) → k < type_count e → IsSame e (type_at e.types k) (type_at table (slice_index places k))
  pub general : (c : ℕ → Finite) → (s : ℕ → Finite) × Solves s e × ((k : ℕ) → k < type_count e → instance s (type_at e.types k) ≡ instance c (type_at table (slice_index places k)))
  pub alike : (a b : ℕ) → a < type_count e → b < type_count e → ((s : ℕ → Finite) → Solves s e → instance s (type_at e.types a) ≡ instance s (type_at e.types b)) →
      type_at table (slice_index places a) ≡ type_at table (slice_index places b)

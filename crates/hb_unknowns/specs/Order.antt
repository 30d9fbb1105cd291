-- Nodes in an order in which each stands after its parts.
use Rattle.std.specs.Prelude.{◌≡◌, ℕ, ◌+◌, ◌*◌, ◌<◌, ◌⊎◌, List, [], ◌∷◌, length, reverse, Option, Some, None, slice_index_or}
use Rattle.std.specs.List.{sum_by}
use Rattle.hb_unknowns.specs.declared.node.Entry.{Entry}
use Rattle.hb_unknowns.specs.declared.node.Node.{Node}
use Rattle.hb_unknowns.specs.declared.node.Node.TheVariants.{Free, Link, Leaf, Apply}
use Rattle.hb_unknowns.specs.declared.order.Mark.{Mark}
use Rattle.hb_unknowns.specs.declared.order.Mark.TheVariants.{New, Open, Done}
use Rattle.hb_types.specs.Finite.{Finite, Single, Applied}
use Rattle.hb_unknowns.specs.Joined.{at}
use Rattle.hb_unknowns.specs.Graph.{Says, Obeys, IsAbove}

abbrev pub marked : List Mark → ℕ → Mark
marked marks place = slice_index_or marks place New

abbrev pub unless_done : Mark → ℕ → Option ℕ → Option ℕ
unless_done New part rest = Some part
unless_done Open part rest = Some part
unless_done Done part rest = rest

abbrev pub first_undone : List Mark → Node → Option ℕ
first_undone marks Free = None
first_undone marks (Link j) = unless_done (marked marks j) j None
first_undone marks (Leaf a) = None
first_undone marks (Apply f x) = unless_done (marked marks f) f (unless_done (marked marks x) x None)

-- the nodes that a node speaks of
abbrev pub IsPart : ℕ → Node → Type 0
IsPart p Free = ⊥
IsPart p (Link j) = p ≡ j
IsPart p (Leaf a) = ⊥
IsPart p (Apply f x) = (p ≡ f) ⊎ (p ≡ x)

abbrev pub size : Finite → ℕ
size (Single a) = 1
size (Applied f x) = size f + size x + 1

-- the part stands below the node: a smaller type, or the same type at a node above
abbrev pub Falls : List Entry → (ℕ → Finite) → ℕ → ℕ → Type 0
Falls nodes v node part = (size (v part) < size (v node)) ⊎ ((size (v part) ≡ size (v node)) × IsAbove nodes part node)

abbrev pub AllFall : List Entry → (ℕ → Finite) → List ℕ → ℕ → Type 0
AllFall nodes v [] part = Unit {0}
AllFall nodes v (node ∷ rest) part = Falls nodes v node part × AllFall nodes v rest part

-- each node of a line of open nodes is below those that come after it
abbrev pub Chain : List Entry → (ℕ → Finite) → List ℕ → Type 0
Chain nodes v [] = Unit {0}
Chain nodes v (node ∷ rest) = AllFall nodes v rest node × Chain nodes v rest

abbrev pub Member : ℕ → List ℕ → Type 0
Member c [] = ⊥
Member c (node ∷ rest) = (c ≡ node) ⊎ Member c rest

abbrev pub AllBelow : ℕ → List ℕ → Type 0
AllBelow n [] = Unit {0}
AllBelow n (node ∷ rest) = (node < n) × AllBelow n rest

abbrev pub Ready : List Mark → Node → Type 0
Ready marks Free = Unit {0}
Ready marks (Link j) = marked marks j ≡ Done
Ready marks (Leaf a) = Unit {0}
Ready marks (Apply f x) = (marked marks f ≡ Done) × (marked marks x ≡ Done)

-- the nodes that are done have types that obey the graph
pub record Settled (nodes : List Entry) (marks : List Mark) (v : ℕ → Finite) : Type 0 where
  pub ready : (k : ℕ) → marked marks k ≡ Done → Ready marks (at nodes k)
  pub says : (k : ℕ) → marked marks k ≡ Done → Says v (v k) (at nodes k)

-- each node stands after its parts, the last one first
abbrev pub AreSorted : List Entry → List ℕ → Type 0
AreSorted nodes [] = Unit {0}
AreSorted nodes (node ∷ earlier) = ((part : ℕ) → IsPart part (at nodes node) → Member part earlier) × AreSorted nodes earlier

-- the line has the nodes that are open, the innermost first, and the finished ones those that are done
pub record Walked (nodes : List Entry) (marks : List Mark) (line finished : List ℕ) : Type 0 where
  pub size : length marks ≡ length nodes
  pub inside : AllBelow (length nodes) line
  pub over : AllBelow (length nodes) finished
  pub chain : (v : ℕ → Finite) → Obeys v nodes → Chain nodes v line
  pub opens : (k : ℕ) → marked marks k ≡ Open → Member k line
  pub dones : (k : ℕ) → marked marks k ≡ Done → Member k finished
  pub sorted : AreSorted nodes finished
  pub types : ℕ → Finite
  pub settled : Settled nodes marks types

-- no mark was taken back
abbrev pub Touched : List Mark → List Mark → Type 0
Touched old new = (k : ℕ) → marked new k ≡ New → marked old k ≡ New

-- no node is marked
pub record AreClear (nodes : List Entry) (marks : List Mark) : Type 0 where
  pub size : length marks ≡ length nodes
  pub new : (k : ℕ) → marked marks k ≡ New

-- the marks of some nodes were taken back
pub record AreCleared (old : List Mark) (places : List ℕ) (new : List Mark) : Type 0 where
  pub size : length new ≡ length old
  pub kept : (k : ℕ) → marked old k ≡ New → marked new k ≡ New
  pub taken : (k : ℕ) → Member k places → marked new k ≡ New

abbrev pub one_new : Mark → ℕ
one_new New = 1
one_new Open = 0
one_new Done = 0

abbrev pub steps_left : List Mark → List ℕ → ℕ
steps_left marks stack = 2 * sum_by one_new marks + length stack

-- all starts are done, and all that is below them
pub record IsMet (nodes : List Entry) (marks : List Mark) (finished starts : List ℕ) : Type 0 where
  pub walked : Walked nodes marks [] (reverse finished)
  pub met : (k : ℕ) → Member k starts → marked marks k ≡ Done

-- nodes with all that is below the starts among them have types that obey the graph
pub record IsReached (nodes : List Entry) (starts : List ℕ) : Type 0 where
  pub marks : List Mark
  pub finished : List ℕ
  pub met : IsMet nodes marks finished starts

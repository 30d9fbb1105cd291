-- A tree is built from its nodes, one after the other. The state is what is built so far; where a step has none, no tree
-- has these nodes.
use Rattle.std.specs.Prelude.{◌≡◌, Bool, true, false, List, [], ◌∷◌, Option, Some, None}

-- the next node, where all before were taken
abbrev pub after : {State Node : Type 0} → (State → Node → Option State) → Option State → Node → Option State
after step None n = None
after step (Some s) n = step s n

-- the nodes one after the other
abbrev pub built : {State Node : Type 0} → (State → Node → Option State) → Option State → List Node → Option State
built step s [] = s
built step s (n ∷ nodes) = built step (after step s n) nodes

-- a node was taken, and this is built now; or it has no place here
abbrev pub Stepped : {State : Type 0} → Bool → Option State → State → Type 0
Stepped true next new = next ≡ Some new
Stepped false next new = next ≡ None

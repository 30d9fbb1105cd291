-- What two nodes say together.
use Rattle.std.specs.Prelude.{ℕ, Bool, false, cond, ◌==◌, List, [], ◌∷◌, Option, Some, None, slice_index_or}
use Rattle.hb_types.specs.declared.atom.Atom.{Atom}
use Rattle.hb_types.specs.declared.atom.Atom.TheVariants.{Var, Con, Nat}
use Rattle.hb_unknowns.specs.declared.node.Node.{Node}
use Rattle.hb_unknowns.specs.declared.node.Node.TheVariants.{Free, Link, Leaf, Apply}
use Rattle.hb_unknowns.specs.declared.node.Entry.{Entry}
use Rattle.hb_unknowns.specs.declared.node.Pair.{Pair}

abbrev pub free : Entry
free = record { node = Free; level = 0 }

abbrev pub entry_at : List Entry → ℕ → Entry
entry_at entries place = slice_index_or entries place free

abbrev pub at : List Entry → ℕ → Node
at entries place = (entry_at entries place).node

abbrev pub level_at : List Entry → ℕ → ℕ
level_at entries place = (entry_at entries place).level

abbrev pub same_atom : Atom → Atom → Bool
same_atom (Var n) (Var m) = n == m
same_atom (Var n) (Con m) = false
same_atom (Var n) (Nat m) = false
same_atom (Con n) (Var m) = false
same_atom (Con n) (Con m) = n == m
same_atom (Con n) (Nat m) = false
same_atom (Nat n) (Var m) = false
same_atom (Nat n) (Con m) = false
same_atom (Nat n) (Nat m) = n == m

abbrev pub joined : Node → Node → Option Node
joined Free second = Some second
joined (Link j) second = None
joined (Leaf a) Free = Some (Leaf a)
joined (Leaf a) (Link j) = None
joined (Leaf a) (Leaf b) = cond (same_atom a b) (Some (Leaf a)) None
joined (Leaf a) (Apply g y) = None
joined (Apply f x) Free = Some (Apply f x)
joined (Apply f x) (Link j) = None
joined (Apply f x) (Leaf b) = None
joined (Apply f x) (Apply g y) = Some (Apply f x)

abbrev pub pair : ℕ → ℕ → Pair
pair l r = record { left = l; right = r }

-- the equations between parts that two applications make
abbrev pub parts : Node → Node → List Pair
parts Free second = []
parts (Link j) second = []
parts (Leaf a) second = []
parts (Apply f x) Free = []
parts (Apply f x) (Link j) = []
parts (Apply f x) (Leaf b) = []
parts (Apply f x) (Apply g y) = pair f g ∷ pair x y ∷ []

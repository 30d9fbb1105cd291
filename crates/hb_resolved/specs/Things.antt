-- What a program declares, in text order, and what its names mean at the top.
use Rattle.std.specs.Prelude.{◌≡◌, ℕ, ◌+◌, ◌<◌, List, [], ◌∷◌, ◌++◌, map, nat_eq, if◌then◌else◌}
use Rattle.std.specs.List.{list_any, range_with_len}
use Rattle.hb_base.specs.declared.name.Name.{Name}
use Rattle.hb_tree.specs.declared.types.NameAt.{NameAt}
use Rattle.hb_tree.specs.declared.types.Sig.{Sig}
use Rattle.hb_tree.specs.declared.declaration.DataCon.{DataCon}
use Rattle.hb_tree.specs.declared.declaration.BitCon.{BitCon}
use Rattle.hb_tree.specs.declared.declaration.Decl.{Decl}
use Rattle.hb_tree.specs.declared.declaration.Decl.TheVariants as decl
use Rattle.hb_resolved.specs.declared.resolved.Target.{Target}
use Rattle.hb_resolved.specs.declared.resolved.Target.TheVariants as target
use Rattle.hb_resolved.specs.Scopes.{Scope, meaning}

abbrev pub a_name : ℕ → Name
a_name n = record { 0 = n }

-- the primitives stand from the name 31 on; there are 38
abbrev pub primitives : List (Name × Target)
primitives = map (λ n. (a_name (31 + n), target.Prim n)) (range_with_len 0 38)

abbrev pub sig_names : List Sig → List NameAt
sig_names [] = []
sig_names (s ∷ ss) = s.names ++ sig_names ss

-- each of the names with the next number
abbrev pub counted : (ℕ → Target) → ℕ → List NameAt → List (Name × Target)
counted t n [] = []
counted t n (at ∷ rest) = (at.name, t n) ∷ counted t (n + 1) rest

abbrev pub count_of : List NameAt → ℕ
count_of [] = 0
count_of (at ∷ rest) = count_of rest + 1

-- the definitions, areas and ports by the number of their declaration, and the methods by their own
abbrev pub variables : (declaration method : ℕ) → List Decl → List (Name × Target)
variables d m [] = []
variables d m (decl.Equation b ∷ ds) = (b.name, target.Top d) ∷ variables (d + 1) m ds
variables d m (decl.Area at name init of align ∷ ds) = (name.name, target.Top d) ∷ variables (d + 1) m ds
variables d m (decl.Port at name way of width number ∷ ds) = (name.name, target.Top d) ∷ variables (d + 1) m ds
variables d m (decl.Class at context name params depends sigs ∷ ds) = counted target.Method m (sig_names sigs) ++ variables (d + 1) (m + count_of (sig_names sigs)) ds
variables d m (x ∷ ds) = variables (d + 1) m ds

abbrev pub data_con_names : List DataCon → List NameAt
data_con_names [] = []
data_con_names (c ∷ cs) = c.name ∷ data_con_names cs

abbrev pub bit_con_names : List BitCon → List NameAt
bit_con_names [] = []
bit_con_names (c ∷ cs) = c.name ∷ bit_con_names cs

-- the constructors of all types
abbrev pub con_names : List Decl → List NameAt
con_names [] = []
con_names (decl.Data at name params cons ∷ ds) = data_con_names cons ++ con_names ds
con_names (decl.Bitdata at name width cons ∷ ds) = bit_con_names cons ++ con_names ds
con_names (x ∷ ds) = con_names ds

-- what the first entry of a name says
abbrev pub first_meaning : List (Name × Target) → Name → Target
first_meaning [] name = target.None
first_meaning (e ∷ es) name = if nat_eq e.0.0 name.0 then e.1 else first_meaning es name

-- the scope at the top, of so many names
pub record IsTop (count : ℕ) (decls : List Decl) (s : Scope) : Type 0 where
  pub variables_mean : (name : Name) → name.0 < count → meaning s.variables name ≡ first_meaning (primitives ++ variables 0 0 decls) name
  pub constructors_mean : (name : Name) → name.0 < count → meaning s.constructors name ≡ first_meaning (counted target.Con 0 (con_names decls)) name

-- the names that stand before them too, each where it comes again
abbrev pub repeated : List Name → List NameAt → List NameAt
repeated seen [] = []
repeated seen (at ∷ rest) =
    if list_any (λ n. nat_eq n.0 at.name.0) seen then at ∷ repeated seen rest else repeated (seen ++ at.name ∷ []) rest

-- the names that signatures speak of, and the names that equations define, each where it stands
abbrev pub signed : List Decl → List NameAt
signed [] = []
signed (decl.Sig s ∷ ds) = s.names ++ signed ds
signed (x ∷ ds) = signed ds

abbrev pub defined : List Decl → List NameAt
defined [] = []
defined (decl.Equation b ∷ ds) = record { place = b.place; name = b.name } ∷ defined ds
defined (x ∷ ds) = defined ds

-- the names that do not stand among the others
abbrev pub missing : List NameAt → List NameAt → List NameAt
missing others [] = []
missing others (at ∷ rest) =
    if list_any (λ n. nat_eq n.name.0 at.name.0) others then missing others rest else at ∷ missing others rest

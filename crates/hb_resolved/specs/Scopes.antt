-- What names mean at a place, by their numbers, and the local names that patterns and blocks bind.
use Rattle.std.specs.Prelude.{ℕ, Bool, true, false, List, [], ◌∷◌, ◌++◌, slice_index_or, slice_set, if◌then◌else◌}
use Rattle.hb_base.specs.declared.name.Name.{Name}
use Rattle.hb_base.specs.declared.place.Place.{Place}
use Rattle.hb_tree.specs.Patterns as pattern
use Rattle.hb_tree.specs.Patterns.{Pat, APat, PatKind, Pats, NoPats, MorePats, FieldPats, NoFieldPats, MoreFieldPats}
use Rattle.hb_tree.specs.Expressions.{Expr, AnExpr, Binds, NoBinds, MoreBinds, Equations, NoEquations, MoreEquations}
use Rattle.hb_resolved.specs.declared.resolved.Target.{Target}
use Rattle.hb_resolved.specs.declared.resolved.Target.TheVariants as target
use Rattle.hb_resolved.specs.declared.resolved.Binder.{Binder}

pub record Scope : Type 0 where
  pub variables : List Target
  pub constructors : List Target

abbrev pub meaning : List Target → Name → Target
meaning table name = slice_index_or table name.0 target.None

-- local names are bound: each hides what its name meant
abbrev pub bound : List Target → List Binder → List Target
bound table [] = table
bound table (b ∷ bs) = bound (slice_set table b.name.0 (target.Local b.number)) bs

-- the names mean nothing
abbrev pub hidden : List Target → List Binder → List Target
hidden table [] = table
hidden table (b ∷ bs) = hidden (slice_set table b.name.0 target.None) bs

abbrev pub within : Scope → List Binder → Scope
within s bs = record { variables = bound s.variables bs; constructors = s.constructors }

abbrev pub without : Scope → List Binder → Scope
without s bs = record { variables = hidden s.variables bs; constructors = s.constructors }

-- the variables of a pattern, from left to right: the number of each is its node
abbrev mutual
  pub pat_binders : Pat → List Binder
  pat_binders (APat n at k) = kind_binders n at k

  pub kind_binders : ℕ → Place → PatKind → List Binder
  kind_binders n at pattern.Any = []
  kind_binders n at (pattern.Var x) = record { place = at; name = x; number = n } ∷ []
  kind_binders n at (pattern.Number m) = []
  kind_binders n at (pattern.Bits w m) = []
  kind_binders n at (pattern.Con c ps) = pats_binders ps
  kind_binders n at (pattern.Fields c fs) = field_pats_binders fs
  kind_binders n at (pattern.Pair p q) = pat_binders p ++ pat_binders q
  kind_binders n at pattern.Unit = []

  pub pats_binders : Pats → List Binder
  pats_binders NoPats = []
  pats_binders (MorePats p ps) = pat_binders p ++ pats_binders ps

  pub field_pats_binders : FieldPats → List Binder
  field_pats_binders NoFieldPats = []
  field_pats_binders (MoreFieldPats at x p fs) = pat_binders p ++ field_pats_binders fs

abbrev pub row_binders : List Pat → List Binder
row_binders [] = []
row_binders (p ∷ ps) = pat_binders p ++ row_binders ps

-- the number of a local definition: the node of its first row's expression
abbrev pub node_of : Expr → ℕ
node_of (AnExpr n at k) = n

abbrev pub number_of : Equations → ℕ
number_of NoEquations = 0
number_of (MoreEquations ps first e bs rows) = node_of e

-- the names of a block
abbrev pub block_binders : Binds → List Binder
block_binders NoBinds = []
block_binders (MoreBinds x at rows bs) = record { place = at; name = x; number = number_of rows } ∷ block_binders bs

-- the definition has parameters
abbrev pub is_function : Equations → Bool
is_function NoEquations = false
is_function (MoreEquations [] first e bs rows) = false
is_function (MoreEquations (p ∷ ps) first e bs rows) = true

-- the names of the functions that stand at the front
abbrev pub group_binders : Binds → List Binder
group_binders NoBinds = []
group_binders (MoreBinds x at rows bs) =
    if is_function rows then record { place = at; name = x; number = number_of rows } ∷ group_binders bs else []

-- What the typing rules demand of the types of a definition: equations and predicates, each at the node to which it belongs. The
-- rule of a statement belongs to its `do`, that of the definitions of a block to the form with the block, those of `case`, `if`,
-- lambda, construction, update and field pattern to the whole form; a parameter's equation with the type of its row to the
-- pattern, and the result's to the expression.
use Rattle.std.specs.Prelude.{ℕ, ◌==◌, if◌then◌else◌, List, [], ◌∷◌, ◌++◌, length, Option, Some, None}
use Rattle.hb_base.specs.declared.name.Name.{Name}
use Rattle.hb_types.specs.Types.{Ty}
use Rattle.hb_types.specs.declared.scheme.Pred.{Pred}
use Rattle.hb_types.specs.declared.scheme.Scheme.{Scheme}
use Rattle.hb_tree.specs.Patterns as pat
use Rattle.hb_tree.specs.Patterns.{Pat, PatKind, APat, Pats, NoPats, MorePats, FieldPats, NoFieldPats, MoreFieldPats}
use Rattle.hb_tree.specs.Expressions as expr
use Rattle.hb_tree.specs.Expressions.{Expr, AnExpr, ExprKind, FieldExprs, NoFieldExprs, MoreFieldExprs, Alts, NoAlts, MoreAlts, Stmts, NoStmts, TakeThen, LetThen, DoThen, Binds, NoBinds, MoreBinds, Equations, NoEquations, MoreEquations}
use Rattle.hb_core.specs.TypeForms.{Action, Arrow, Form, Of, at_one, arrow, arrows, form}
use Rattle.hb_types.specs.Put.{put}
use Rattle.hb_core.specs.View.{View, Target, Local, Constructor, Con, DataCon, BitCon, BitField}
use Rattle.hb_core.specs.Environments.{node, rows_node}
use Rattle.hb_core.specs.Matching.{con_of, field_named}
use Rattle.hb_core.specs.Facts.{literal_at}
use Rattle.hb_core.specs.Entailment.{put_preds}
use Rattle.hb_core.specs.PatternTypes.{bits_type, pat_node, pat_types, row_types}

pub data Demand : Type 0 where
  -- two types are one
  Same : Ty → Ty → Demand
  -- a predicate follows from what the definition is given; or, in patterns, from nothing
  Follows : Pred → Demand
  FollowsAlone : Pred → Demand
  -- the type of a selection from a value of the first type, and that of the field in an update of such a value
  Selects : Ty → Name → Ty → Demand
  Updates : Ty → Name → Ty → Demand
  -- no types do
  Never : Demand

pub record At : Type 0 where
  pub node : ℕ
  pub demand : Demand

abbrev pub at : ℕ → Demand → At
at n d = record { node = n; demand = d }

abbrev pub same_at : ℕ → Ty → Ty → List At
same_at n t u = at n (Same t u) ∷ []

-- ---- uses of names

abbrev pub follow_at : ℕ → List Pred → List At
follow_at n [] = []
follow_at n (p ∷ ps) = at n (Follows p) ∷ follow_at n ps

abbrev pub follow_alone_at : ℕ → List Pred → List At
follow_alone_at n [] = []
follow_alone_at n (p ∷ ps) = at n (FollowsAlone p) ∷ follow_alone_at n ps

-- a name at types for the variables of its scheme, and the type that it has there
abbrev pub taken_at : ℕ → Option Scheme → List Ty → Ty → List At
taken_at n (Some scheme) ts t = at n (Same t (put ts scheme.body)) ∷ follow_at n (put_preds ts scheme.preds)
taken_at n None ts t = at n Never ∷ []

abbrev pub taken_alone_at : ℕ → Option Scheme → List Ty → Ty → List At
taken_alone_at n (Some scheme) ts t = at n (Same t (put ts scheme.body)) ∷ follow_alone_at n (put_preds ts scheme.preds)
taken_alone_at n None ts t = at n Never ∷ []

abbrev pub use_at : View → Target → ℕ → List At
use_at P (Local l) n = same_at n (P.type_of n) (P.local_type l)
use_at P t n = taken_at n (P.scheme t) (P.uses n) (P.type_of n)

-- ---- patterns

-- a constructor pattern has as many patterns as its constructor has arguments; a bitdata constructor has none
abbrev pub arguments_at : ℕ → Option Con → ℕ → List At
arguments_at n (Some (DataCon arity)) count = if count == arity then [] else at n Never ∷ []
arguments_at n (Some (BitCon ms fields)) count = if count == 0 then [] else at n Never ∷ []
arguments_at n None count = at n Never ∷ []

-- a construction and a field pattern are of a bitdata constructor
abbrev pub bits_at : ℕ → Option Con → List At
bits_at n (Some (BitCon ms fields)) = []
bits_at n (Some (DataCon arity)) = at n Never ∷ []
bits_at n None = at n Never ∷ []

abbrev pub fields_in : Option Con → List BitField
fields_in (Some (BitCon ms fields)) = fields
fields_in (Some (DataCon arity)) = []
fields_in None = []

-- a field that the constructor lacks demands nothing
abbrev pub field_at : ℕ → Option BitField → Ty → List At
field_at n (Some f) t = same_at n t f.of
field_at n None t = []

abbrev mutual
  pub pat_demands : View → Pat → List At
  pat_demands P (APat n place kind) = pat_kind_demands P kind n

  pub pat_kind_demands : View → PatKind → ℕ → List At
  pat_kind_demands P pat.Any n = []
  pat_kind_demands P (pat.Var x) n = same_at n (P.type_of n) (P.local_type (P.binder n))
  pat_kind_demands P (pat.Number k) n = at n (FollowsAlone (literal_at k (P.type_of n))) ∷ []
  pat_kind_demands P (pat.Bits width k) n = same_at n (P.type_of n) (bits_type width)
  pat_kind_demands P (pat.Con x ps) n =
      pats_demands P ps
      ++ arguments_at n (con_of P (P.target n)) (length (pat_types P ps))
      ++ taken_alone_at n (P.scheme (P.target n)) (P.uses n) (arrows (pat_types P ps) (P.type_of n))
  pat_kind_demands P (pat.Fields x fs) n =
      field_pats_demands P n fs (fields_in (con_of P (P.target n)))
      ++ bits_at n (con_of P (P.target n))
      ++ taken_alone_at n (P.scheme (P.target n)) (P.uses n) (P.type_of n)
  pat_kind_demands P (pat.Pair p q) n =
      pat_demands P p
      ++ pat_demands P q
      ++ taken_alone_at n (P.scheme (Constructor P.pair)) (P.type_of (pat_node p) ∷ P.type_of (pat_node q) ∷ []) (arrows (P.type_of (pat_node p) ∷ P.type_of (pat_node q) ∷ []) (P.type_of n))
  pat_kind_demands P pat.Unit n = same_at n (P.type_of n) P.unit_type

  pub pats_demands : View → Pats → List At
  pats_demands P NoPats = []
  pats_demands P (MorePats p ps) = pat_demands P p ++ pats_demands P ps

  -- the fields of the pattern n
  pub field_pats_demands : View → ℕ → FieldPats → List BitField → List At
  field_pats_demands P n NoFieldPats fields = []
  field_pats_demands P n (MoreFieldPats place x p fs) fields =
      pat_demands P p ++ field_at n (field_named x fields) (P.type_of (pat_node p)) ++ field_pats_demands P n fs fields

abbrev pub row_demands : View → List Pat → List At
row_demands P [] = []
row_demands P (p ∷ ps) = pat_demands P p ++ row_demands P ps

-- ---- expressions

-- `R` gives the type of the result of the action that stands as a statement, by its node

abbrev mutual
  pub expr_demands : View → (ℕ → Ty) → Expr → List At
  expr_demands P R (AnExpr n place kind) = kind_demands P R kind n

  pub kind_demands : View → (ℕ → Ty) → ExprKind → ℕ → List At
  kind_demands P R (expr.Var x) n = use_at P (P.target n) n
  kind_demands P R (expr.Con x) n = use_at P (P.target n) n
  kind_demands P R (expr.Number k) n = at n (Follows (literal_at k (P.type_of n))) ∷ []
  kind_demands P R (expr.Bits width k) n = same_at n (P.type_of n) (bits_type width)
  kind_demands P R expr.Unit n = same_at n (P.type_of n) P.unit_type
  kind_demands P R (expr.Apply f x) n =
      expr_demands P R f ++ expr_demands P R x ++ same_at n (P.type_of (node f)) (arrow (P.type_of (node x)) (P.type_of n))
  kind_demands P R (expr.Lambda ps e) n =
      row_demands P ps ++ expr_demands P R e ++ same_at n (P.type_of n) (arrows (row_types P ps) (P.type_of (node e)))
  kind_demands P R (expr.Let bs e) n = binds_demands P R n bs ++ expr_demands P R e ++ same_at n (P.type_of n) (P.type_of (node e))
  kind_demands P R (expr.If c e f) n =
      expr_demands P R c
      ++ expr_demands P R e
      ++ expr_demands P R f
      ++ same_at n (P.type_of (node c)) P.bool_type
      ++ same_at n (P.type_of (node e)) (P.type_of n)
      ++ same_at n (P.type_of (node f)) (P.type_of n)
  kind_demands P R (expr.Case e alts) n = expr_demands P R e ++ alts_demands P R n alts (P.type_of (node e)) (P.type_of n)
  kind_demands P R (expr.Do ss) n = stmts_demands P R n ss (P.type_of n)
  kind_demands P R (expr.Select e x) n = expr_demands P R e ++ at n (Selects (P.type_of (node e)) x (P.type_of n)) ∷ []
  kind_demands P R (expr.Build x fs) n =
      built_demands P R n fs (fields_in (con_of P (P.target n)))
      ++ bits_at n (con_of P (P.target n))
      ++ taken_at n (P.scheme (P.target n)) (P.uses n) (P.type_of n)
  kind_demands P R (expr.Update e fs) n =
      expr_demands P R e ++ updated_demands P R n fs (P.type_of n) ++ same_at n (P.type_of n) (P.type_of (node e))
  -- neither stands in a source whose names are resolved
  kind_demands P R (expr.Run es os) n = at n Never ∷ []
  kind_demands P R (expr.Pair e f) n = at n Never ∷ []

  -- the fields of the construction n, and of the update n of a value of this type
  pub built_demands : View → (ℕ → Ty) → ℕ → FieldExprs → List BitField → List At
  built_demands P R n NoFieldExprs fields = []
  built_demands P R n (MoreFieldExprs place x e fs) fields =
      expr_demands P R e ++ field_at n (field_named x fields) (P.type_of (node e)) ++ built_demands P R n fs fields

  pub updated_demands : View → (ℕ → Ty) → ℕ → FieldExprs → Ty → List At
  updated_demands P R n NoFieldExprs t = []
  updated_demands P R n (MoreFieldExprs place x e fs) t =
      expr_demands P R e ++ at n (Updates t x (P.type_of (node e))) ∷ updated_demands P R n fs t

  -- the alternatives of the `case` n
  pub alts_demands : View → (ℕ → Ty) → ℕ → Alts → Ty → Ty → List At
  alts_demands P R n NoAlts of to = []
  alts_demands P R n (MoreAlts p e alts) of to =
      pat_demands P p
      ++ expr_demands P R e
      ++ same_at n (P.type_of (pat_node p)) of
      ++ same_at n (P.type_of (node e)) to
      ++ alts_demands P R n alts of to

  -- the statements of the `do` n; the type of the last one is that of the whole
  pub stmts_demands : View → (ℕ → Ty) → ℕ → Stmts → Ty → List At
  stmts_demands P R n NoStmts t = at n Never ∷ []
  stmts_demands P R n (TakeThen p e ss) t =
      pat_demands P p
      ++ expr_demands P R e
      ++ same_at n (P.type_of (node e)) (at_one Action (P.type_of (pat_node p)))
      ++ stmts_demands P R n ss t
  stmts_demands P R n (LetThen bs ss) t = binds_demands P R n bs ++ stmts_demands P R n ss t
  stmts_demands P R n (DoThen e NoStmts) t = expr_demands P R e ++ same_at n (P.type_of (node e)) t ++ same_at n t (at_one Action (R (node e)))
  stmts_demands P R n (DoThen e ss) t = expr_demands P R e ++ same_at n (P.type_of (node e)) (at_one Action (R (node e))) ++ stmts_demands P R n ss t

  -- the local definitions of the form n
  pub binds_demands : View → (ℕ → Ty) → ℕ → Binds → List At
  binds_demands P R n NoBinds = []
  binds_demands P R n (MoreBinds x place rows bs) =
      local_demands P R n rows (P.local_type (P.binder (rows_node rows))) ++ binds_demands P R n bs

  -- the rows of a local definition of this type, in the form n
  pub local_demands : View → (ℕ → Ty) → ℕ → Equations → Ty → List At
  local_demands P R n NoEquations t = []
  local_demands P R n (MoreEquations ps place e local rows) t =
      row_demands P ps
      ++ expr_demands P R e
      ++ binds_demands P R n local
      ++ same_at n t (arrows (row_types P ps) (P.type_of (node e)))
      ++ local_demands P R n rows t

-- ---- definitions

-- a type of a function: what it takes and what it gives
abbrev pub arrow_parts : Form → Option (Ty × Ty)
arrow_parts (Of Arrow (a ∷ b ∷ [])) = Some (a, b)
arrow_parts f = None

-- a row of a definition whose type is written: each parameter has the type that stands at its place, and this belongs to its
-- pattern; the result has what is left, and this belongs to the root of the row's expression
abbrev pub parameter_at : View → Pat → List Pat → Expr → Ty → Option (Ty × Ty) → (Ty → List At) → List At
parameter_at P p ps e t (Some parts) rest = same_at (pat_node p) (P.type_of (pat_node p)) parts.0 ++ rest parts.1
parameter_at P p ps e t None rest = same_at (pat_node p) t (arrows (row_types P (p ∷ ps)) (P.type_of (node e)))

abbrev pub signed_at : View → List Pat → Expr → Ty → List At
signed_at P [] e t = same_at (node e) (P.type_of (node e)) t
signed_at P (p ∷ ps) e t = parameter_at P p ps e t (arrow_parts (form t)) (λ u. signed_at P ps e u)

-- the rows of such a definition
abbrev pub rows_demands : View → (ℕ → Ty) → Equations → Ty → List At
rows_demands P R NoEquations t = []
rows_demands P R (MoreEquations ps place e local rows) t =
    row_demands P ps
    ++ expr_demands P R e
    ++ binds_demands P R (node e) local
    ++ signed_at P ps e t
    ++ rows_demands P R rows t

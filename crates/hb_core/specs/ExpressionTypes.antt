-- When expressions fit their types: one rule a form, on the node and its direct parts. Signature variables are constants,
-- and `givens` are what the definition around may use of them.
use Rattle.std.specs.Prelude.{◌≡◌, ℕ, List, Option, Some, None, option_map, option_and_then, find}
use Rattle.std.specs.Prelude.{◌==◌}
use Rattle.hb_base.specs.declared.name.Name.{Name}
use Rattle.hb_types.specs.Types.{Ty}
use Rattle.hb_types.specs.declared.scheme.Pred.{Pred}
use Rattle.hb_tree.specs.Expressions as expr
use Rattle.hb_tree.specs.Expressions.{Expr, AnExpr, ExprKind, FieldExprs, NoFieldExprs, MoreFieldExprs, Alts, NoAlts, MoreAlts, Stmts, NoStmts, TakeThen, LetThen, DoThen, Binds, NoBinds, MoreBinds, Equations, NoEquations, MoreEquations}
use Rattle.hb_core.specs.TypeForms.{Action, Ref, at_one, arrow, arrows, form}
use Rattle.hb_core.specs.View.{View, Target, Local, BitField}
use Rattle.hb_core.specs.Environments.{node, rows_node}
use Rattle.hb_core.specs.Matching.{con_of, field_named}
use Rattle.hb_core.specs.Evaluation.{fields_of, struct_under}
use Rattle.hb_core.specs.Facts.{literal_at}
use Rattle.hb_core.specs.Entailment.{Entails}
use Rattle.hb_core.specs.PatternTypes.{TakesSome, bits_type, pat_node, row_types, FitsPat, FitsRow, HasFieldType, WithFields}

-- ---- parts of rules

-- a local has its one type, and any other name the type of its scheme
abbrev pub FitsUse : View → List Pred → Target → ℕ → Type 0
FitsUse P givens (Local l) n = P.type_of n ≡ P.local_type l
FitsUse P givens t n = TakesSome P givens (P.scheme t) (P.uses n) (P.type_of n)

-- `M t`, for some t
abbrev pub IsAction : Ty → Type 0
IsAction t = (u : Ty) × (t ≡ at_one Action u)

-- the type of a field of a type that is a bitdata type with one constructor
abbrev pub bit_field_type : View → Ty → Name → Option Ty
bit_field_type P t x = option_and_then (λ fields. option_map (λ f. f.of) (field_named x fields)) (fields_of P t)

-- the reference to a field, of a reference to a struct
abbrev pub struct_field_type : View → Ty → Name → Option Ty
struct_field_type P t x =
    option_and_then (λ fields. option_map (λ f. at_one Ref f.of) (find (λ f. f.name.0 == x.0) fields)) (struct_under P (form t))

abbrev pub or_else : {A : Type 0} → Option A → Option A → Option A
or_else (Some x) other = Some x
or_else None other = other

-- the type of a selection
abbrev pub selected_type : View → Ty → Name → Option Ty
selected_type P t x = or_else (bit_field_type P t x) (struct_field_type P t x)

-- ---- expressions

abbrev mutual
  pub FitsExpr : View → List Pred → Expr → Type 0
  FitsExpr P givens (AnExpr n place kind) = FitsKind P givens kind n

  pub FitsKind : View → List Pred → ExprKind → ℕ → Type 0
  FitsKind P givens (expr.Var x) n = FitsUse P givens (P.target n) n
  FitsKind P givens (expr.Con x) n = FitsUse P givens (P.target n) n
  FitsKind P givens (expr.Number k) n = Entails P givens (literal_at k (P.type_of n))
  FitsKind P givens (expr.Bits width k) n = P.type_of n ≡ bits_type width
  FitsKind P givens expr.Unit n = P.type_of n ≡ P.unit_type
  FitsKind P givens (expr.Apply f x) n =
      (P.type_of (node f) ≡ arrow (P.type_of (node x)) (P.type_of n)) × FitsExpr P givens f × FitsExpr P givens x
  FitsKind P givens (expr.Lambda ps e) n =
      (P.type_of n ≡ arrows (row_types P ps) (P.type_of (node e))) × FitsRow P ps × FitsExpr P givens e
  FitsKind P givens (expr.Let bs e) n = (P.type_of n ≡ P.type_of (node e)) × FitsBinds P givens bs × FitsExpr P givens e
  FitsKind P givens (expr.If c e f) n =
      (P.type_of (node c) ≡ P.bool_type)
      × (P.type_of (node e) ≡ P.type_of n)
      × (P.type_of (node f) ≡ P.type_of n)
      × FitsExpr P givens c
      × FitsExpr P givens e
      × FitsExpr P givens f
  FitsKind P givens (expr.Case e alts) n = FitsExpr P givens e × FitsAlts P givens alts (P.type_of (node e)) (P.type_of n)
  FitsKind P givens (expr.Do ss) n = FitsStmts P givens ss (P.type_of n)
  FitsKind P givens (expr.Select e x) n = (selected_type P (P.type_of (node e)) x ≡ Some (P.type_of n)) × FitsExpr P givens e
  FitsKind P givens (expr.Build x fs) n =
      TakesSome P givens (P.scheme (P.target n)) (P.uses n) (P.type_of n) × WithFields (con_of P (P.target n)) (λ fields. FitsBuilt P givens fs fields)
  FitsKind P givens (expr.Update e fs) n = (P.type_of n ≡ P.type_of (node e)) × FitsExpr P givens e × FitsUpdate P givens fs (P.type_of n)
  -- neither stands in a source whose names are resolved
  FitsKind P givens (expr.Run es os) n = ⊥
  FitsKind P givens (expr.Pair e f) n = ⊥

  -- the fields of a construction
  pub FitsBuilt : View → List Pred → FieldExprs → List BitField → Type 0
  FitsBuilt P givens NoFieldExprs fields = Unit {0}
  FitsBuilt P givens (MoreFieldExprs place x e fs) fields =
      HasFieldType (field_named x fields) (P.type_of (node e)) × FitsExpr P givens e × FitsBuilt P givens fs fields

  -- the fields of an update of a value of this type
  pub FitsUpdate : View → List Pred → FieldExprs → Ty → Type 0
  FitsUpdate P givens NoFieldExprs t = Unit {0}
  FitsUpdate P givens (MoreFieldExprs place x e fs) t =
      (bit_field_type P t x ≡ Some (P.type_of (node e))) × FitsExpr P givens e × FitsUpdate P givens fs t

  -- alternatives on a value of one type, with a result of another
  pub FitsAlts : View → List Pred → Alts → Ty → Ty → Type 0
  FitsAlts P givens NoAlts of result = Unit {0}
  FitsAlts P givens (MoreAlts p e alts) of result =
      (P.type_of (pat_node p) ≡ of) × (P.type_of (node e) ≡ result) × FitsPat P p × FitsExpr P givens e × FitsAlts P givens alts of result

  -- statements: each runs an action; the type of the last one is that of the whole, and it is an action's
  pub FitsStmts : View → List Pred → Stmts → Ty → Type 0
  FitsStmts P givens NoStmts t = ⊥
  FitsStmts P givens (TakeThen p e ss) t =
      (P.type_of (node e) ≡ at_one Action (P.type_of (pat_node p))) × FitsPat P p × FitsExpr P givens e × FitsStmts P givens ss t
  FitsStmts P givens (LetThen bs ss) t = FitsBinds P givens bs × FitsStmts P givens ss t
  FitsStmts P givens (DoThen e NoStmts) t = (P.type_of (node e) ≡ t) × IsAction t × FitsExpr P givens e
  FitsStmts P givens (DoThen e ss) t = IsAction (P.type_of (node e)) × FitsExpr P givens e × FitsStmts P givens ss t

  -- local definitions: each has the one type of its local
  pub FitsBinds : View → List Pred → Binds → Type 0
  FitsBinds P givens NoBinds = Unit {0}
  FitsBinds P givens (MoreBinds x place rows bs) = FitsRows P givens rows (P.local_type (P.binder (rows_node rows))) × FitsBinds P givens bs

  -- rows of one type
  pub FitsRows : View → List Pred → Equations → Ty → Type 0
  FitsRows P givens NoEquations t = Unit {0}
  FitsRows P givens (MoreEquations ps place e local rows) t =
      (t ≡ arrows (row_types P ps) (P.type_of (node e))) × FitsRow P ps × FitsBinds P givens local × FitsExpr P givens e × FitsRows P givens rows t

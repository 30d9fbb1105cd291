-- What each node uses, in node order: the name that stands there, and what it means.
use Rattle.std.specs.Prelude.{ℕ, ◌+◌, Bool, true, false, List, [], ◌∷◌, ◌++◌, Some, None, if◌then◌else◌}
use Rattle.hb_base.specs.declared.name.Name.{Name}
use Rattle.hb_base.specs.declared.place.Place.{Place}
use Rattle.hb_tree.specs.Patterns as pattern
use Rattle.hb_tree.specs.Patterns.{Pat, APat, PatKind, Pats, NoPats, MorePats, FieldPats, NoFieldPats, MoreFieldPats}
use Rattle.hb_tree.specs.Expressions.{Expr, AnExpr, ExprKind, Var, Con, Number, Bits, Unit, Apply, Run, Lambda, Let, If, Case, Do, Select, Build, Update, Pair, Exprs, NoExprs, MoreExprs, FieldExprs, NoFieldExprs, MoreFieldExprs, Alts, NoAlts, MoreAlts, Stmts, NoStmts, TakeThen, LetThen, DoThen, Binds, NoBinds, MoreBinds, Equations, NoEquations, MoreEquations}
use Rattle.hb_tree.specs.ExpressionViews.{binds, equations}
use Rattle.hb_tree.specs.Initials.{InitExpr, Each, Fields, Cell, FieldInits, NoFieldInits, MoreFieldInits}
use Rattle.hb_tree.specs.declared.declaration.Decl.{Decl}
use Rattle.hb_tree.specs.declared.declaration.Decl.TheVariants as decl
use Rattle.hb_resolved.specs.declared.resolved.Target.TheVariants as target
use Rattle.hb_resolved.specs.declared.resolved.Use.{Use}
use Rattle.hb_resolved.specs.Scopes.{Scope, meaning, within, without, pat_binders, row_binders, block_binders, group_binders, number_of, is_function}

-- the constructors that `()` and pairs stand for
abbrev pub unit_name : Name
unit_name = record { 0 = 23 }

abbrev pub pair_name : Name
pair_name = record { 0 = 24 }

abbrev pub no_name : Place → Use
no_name at = record { place = at; name = None; target = target.None }

abbrev pub a_variable : Scope → Place → Name → Use
a_variable s at x = record { place = at; name = Some x; target = meaning s.variables x }

abbrev pub a_constructor : Scope → Place → Name → Use
a_constructor s at c = record { place = at; name = Some c; target = meaning s.constructors c }

abbrev pub pat_use : Scope → ℕ → Place → PatKind → Use
pat_use s n at pattern.Any = no_name at
pat_use s n at (pattern.Var x) = record { place = at; name = None; target = target.Local n }
pat_use s n at (pattern.Number m) = no_name at
pat_use s n at (pattern.Bits w m) = no_name at
pat_use s n at (pattern.Con c ps) = a_constructor s at c
pat_use s n at (pattern.Fields c fs) = a_constructor s at c
pat_use s n at (pattern.Pair p q) = a_constructor s at pair_name
pat_use s n at pattern.Unit = a_constructor s at unit_name

abbrev mutual
  pub pat_uses : Scope → Pat → List Use
  pat_uses s (APat n at k) = pat_parts s k ++ pat_use s n at k ∷ []

  pub pat_parts : Scope → PatKind → List Use
  pat_parts s pattern.Any = []
  pat_parts s (pattern.Var x) = []
  pat_parts s (pattern.Number m) = []
  pat_parts s (pattern.Bits w m) = []
  pat_parts s (pattern.Con c ps) = pats_uses s ps
  pat_parts s (pattern.Fields c fs) = field_pats_uses s fs
  pat_parts s (pattern.Pair p q) = pat_uses s p ++ pat_uses s q
  pat_parts s pattern.Unit = []

  pub pats_uses : Scope → Pats → List Use
  pats_uses s NoPats = []
  pats_uses s (MorePats p ps) = pat_uses s p ++ pats_uses s ps

  pub field_pats_uses : Scope → FieldPats → List Use
  field_pats_uses s NoFieldPats = []
  field_pats_uses s (MoreFieldPats at x p fs) = pat_uses s p ++ field_pats_uses s fs

abbrev pub row_uses : Scope → List Pat → List Use
row_uses s [] = []
row_uses s (p ∷ ps) = pat_uses s p ++ row_uses s ps

abbrev pub expr_use : Scope → Place → ExprKind → Use
expr_use s at (Var x) = a_variable s at x
expr_use s at (Con c) = a_constructor s at c
expr_use s at Unit = a_constructor s at unit_name
expr_use s at (Build c fs) = a_constructor s at c
expr_use s at (Pair a b) = a_constructor s at pair_name
expr_use s at k = no_name at

-- what a block's definitions see: each one the names before it, and functions that stand next to each other one another.
-- `grouped` tells that the names of the functions here are bound
abbrev mutual
  pub expr_uses : Scope → Expr → List Use
  expr_uses s (AnExpr n at k) = parts_uses s k ++ expr_use s at k ∷ []

  pub parts_uses : Scope → ExprKind → List Use
  parts_uses s (Var x) = []
  parts_uses s (Con c) = []
  parts_uses s (Number n) = []
  parts_uses s (Bits w n) = []
  parts_uses s Unit = []
  parts_uses s (Apply f x) = expr_uses s f ++ expr_uses s x
  parts_uses s (Run es os) = exprs_uses s es ++ exprs_uses s os
  parts_uses s (Lambda ps e) = row_uses s ps ++ expr_uses (within s (row_binders ps)) e
  parts_uses s (Let bs e) = binds_uses false (without s (block_binders bs)) bs ++ expr_uses (within s (block_binders bs)) e
  parts_uses s (If c t e) = expr_uses s c ++ expr_uses s t ++ expr_uses s e
  parts_uses s (Case e all) = expr_uses s e ++ alts_uses s all
  parts_uses s (Do ss) = stmts_uses s ss
  parts_uses s (Select e f) = expr_uses s e
  parts_uses s (Build c fs) = fields_uses s fs
  parts_uses s (Update e fs) = expr_uses s e ++ fields_uses s fs
  parts_uses s (Pair a b) = expr_uses s a ++ expr_uses s b

  pub exprs_uses : Scope → Exprs → List Use
  exprs_uses s NoExprs = []
  exprs_uses s (MoreExprs e es) = expr_uses s e ++ exprs_uses s es

  pub fields_uses : Scope → FieldExprs → List Use
  fields_uses s NoFieldExprs = []
  fields_uses s (MoreFieldExprs at x e fs) = expr_uses s e ++ fields_uses s fs

  pub alts_uses : Scope → Alts → List Use
  alts_uses s NoAlts = []
  alts_uses s (MoreAlts p e all) = pat_uses s p ++ expr_uses (within s (pat_binders p)) e ++ alts_uses s all

  -- the names of a statement are known in those after it
  pub stmts_uses : Scope → Stmts → List Use
  stmts_uses s NoStmts = []
  stmts_uses s (TakeThen p e ss) = pat_uses s p ++ expr_uses s e ++ stmts_uses (within s (pat_binders p)) ss
  stmts_uses s (LetThen bs ss) = binds_uses false (without s (block_binders bs)) bs ++ stmts_uses (within s (block_binders bs)) ss
  stmts_uses s (DoThen e ss) = expr_uses s e ++ stmts_uses s ss

  pub binds_uses : Bool → Scope → Binds → List Use
  binds_uses grouped s NoBinds = []
  binds_uses grouped s (MoreBinds x at rows bs) =
      if is_function rows
      then (rows_uses (if grouped then s else within s (group_binders (MoreBinds x at rows bs))) rows
      ++ binds_uses true (if grouped then s else within s (group_binders (MoreBinds x at rows bs))) bs)
      else (rows_uses s rows ++ binds_uses false (within s (record { place = at; name = x; number = number_of rows } ∷ [])) bs)

  -- the names of a row's patterns are known in it, and those of its `where` in its expression too
  pub rows_uses : Scope → Equations → List Use
  rows_uses s NoEquations = []
  rows_uses s (MoreEquations ps first e bs rows) =
      row_uses s ps
      ++ expr_uses (within (within s (row_binders ps)) (block_binders bs)) e
      ++ binds_uses false (without (within s (row_binders ps)) (block_binders bs)) bs
      ++ rows_uses s rows

-- how many names `each` binds in an initialiser
abbrev mutual
  pub each_count : InitExpr → ℕ
  each_count (Each place name i) = each_count i + 1
  each_count (Fields place fs) = fields_each_count fs
  each_count (Cell place e) = 0

  pub fields_each_count : FieldInits → ℕ
  fields_each_count NoFieldInits = 0
  fields_each_count (MoreFieldInits name i fs) = each_count i + fields_each_count fs

-- an initialiser: the name of an `each` is known in it, and has the next number
abbrev mutual
  pub init_uses : ℕ → Scope → InitExpr → List Use
  init_uses next s (Each place name i) = init_uses (next + 1) (within s (record { place = name.place; name = name.name; number = next } ∷ [])) i
  init_uses next s (Fields place fs) = field_inits_uses next s fs
  init_uses next s (Cell place e) = expr_uses s e

  pub field_inits_uses : ℕ → Scope → FieldInits → List Use
  field_inits_uses next s NoFieldInits = []
  field_inits_uses next s (MoreFieldInits name i fs) = init_uses next s i ++ field_inits_uses (next + each_count i) s fs

-- the equations of an instance: their names are bound nowhere
abbrev pub methods_uses : Scope → Binds → List Use
methods_uses s NoBinds = []
methods_uses s (MoreBinds x at rows bs) = rows_uses s rows ++ methods_uses s bs

abbrev pub decl_uses : ℕ → Scope → Decl → List Use
decl_uses next s (decl.Equation b) = rows_uses s (equations b.rows)
decl_uses next s (decl.Area at name (Some i) of align) = init_uses next s i
decl_uses next s (decl.Instance at name types context bs) = methods_uses s (binds bs)
decl_uses next s d = []

abbrev pub decl_each_count : Decl → ℕ
decl_each_count (decl.Area at name (Some i) of align) = each_count i
decl_each_count d = 0

-- all uses of a program; the names of `each` are numbered from `next` on
abbrev pub decls_uses : ℕ → Scope → List Decl → List Use
decls_uses next s [] = []
decls_uses next s (d ∷ ds) = decl_uses next s d ++ decls_uses (next + decl_each_count d) s ds

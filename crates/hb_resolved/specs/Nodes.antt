-- The numbers of a tree's nodes in node order: parts come before the whole, a head before its arguments, the rest from left
-- to right, and declarations in text order.
use Rattle.std.specs.Prelude.{ℕ, List, [], ◌∷◌, ◌++◌, Some}
use Rattle.hb_tree.specs.Patterns as pattern
use Rattle.hb_tree.specs.Patterns.{Pat, APat, PatKind, Pats, NoPats, MorePats, FieldPats, NoFieldPats, MoreFieldPats}
use Rattle.hb_tree.specs.Expressions.{Expr, AnExpr, ExprKind, Var, Con, Number, Bits, Unit, Apply, Run, Lambda, Let, If, Case, Do, Select, Build, Update, Pair, Exprs, NoExprs, MoreExprs, FieldExprs, NoFieldExprs, MoreFieldExprs, Alts, NoAlts, MoreAlts, Stmts, NoStmts, TakeThen, LetThen, DoThen, Binds, NoBinds, MoreBinds, Equations, NoEquations, MoreEquations}
use Rattle.hb_tree.specs.ExpressionViews.{binds, equations}
use Rattle.hb_tree.specs.Initials.{InitExpr, Each, Fields, Cell, FieldInits, NoFieldInits, MoreFieldInits}
use Rattle.hb_tree.specs.declared.declaration.Decl.{Decl}
use Rattle.hb_tree.specs.declared.declaration.Decl.TheVariants as decl

abbrev mutual
  pub pat_nodes : Pat → List ℕ
  pat_nodes (APat n at k) = pat_kind_nodes k ++ n ∷ []

  pub pat_kind_nodes : PatKind → List ℕ
  pat_kind_nodes pattern.Any = []
  pat_kind_nodes (pattern.Var x) = []
  pat_kind_nodes (pattern.Number n) = []
  pat_kind_nodes (pattern.Bits w n) = []
  pat_kind_nodes (pattern.Con c ps) = pats_nodes ps
  pat_kind_nodes (pattern.Fields c fs) = field_pats_nodes fs
  pat_kind_nodes (pattern.Pair p q) = pat_nodes p ++ pat_nodes q
  pat_kind_nodes pattern.Unit = []

  pub pats_nodes : Pats → List ℕ
  pats_nodes NoPats = []
  pats_nodes (MorePats p ps) = pat_nodes p ++ pats_nodes ps

  pub field_pats_nodes : FieldPats → List ℕ
  field_pats_nodes NoFieldPats = []
  field_pats_nodes (MoreFieldPats at x p fs) = pat_nodes p ++ field_pats_nodes fs

-- the patterns of one row
abbrev pub row_nodes : List Pat → List ℕ
row_nodes [] = []
row_nodes (p ∷ ps) = pat_nodes p ++ row_nodes ps

abbrev mutual
  pub expr_nodes : Expr → List ℕ
  expr_nodes (AnExpr n at k) = kind_nodes k ++ n ∷ []

  pub kind_nodes : ExprKind → List ℕ
  kind_nodes (Var x) = []
  kind_nodes (Con c) = []
  kind_nodes (Number n) = []
  kind_nodes (Bits w n) = []
  kind_nodes Unit = []
  kind_nodes (Apply f x) = expr_nodes f ++ expr_nodes x
  kind_nodes (Run es os) = exprs_nodes es ++ exprs_nodes os
  kind_nodes (Lambda ps e) = row_nodes ps ++ expr_nodes e
  kind_nodes (Let bs e) = binds_nodes bs ++ expr_nodes e
  kind_nodes (If c t e) = expr_nodes c ++ expr_nodes t ++ expr_nodes e
  kind_nodes (Case e all) = expr_nodes e ++ alts_nodes all
  kind_nodes (Do ss) = stmts_nodes ss
  kind_nodes (Select e f) = expr_nodes e
  kind_nodes (Build c fs) = fields_nodes fs
  kind_nodes (Update e fs) = expr_nodes e ++ fields_nodes fs
  kind_nodes (Pair a b) = expr_nodes a ++ expr_nodes b

  pub exprs_nodes : Exprs → List ℕ
  exprs_nodes NoExprs = []
  exprs_nodes (MoreExprs e es) = expr_nodes e ++ exprs_nodes es

  pub fields_nodes : FieldExprs → List ℕ
  fields_nodes NoFieldExprs = []
  fields_nodes (MoreFieldExprs at x e fs) = expr_nodes e ++ fields_nodes fs

  pub alts_nodes : Alts → List ℕ
  alts_nodes NoAlts = []
  alts_nodes (MoreAlts p e all) = pat_nodes p ++ expr_nodes e ++ alts_nodes all

  pub stmts_nodes : Stmts → List ℕ
  stmts_nodes NoStmts = []
  stmts_nodes (TakeThen p e ss) = pat_nodes p ++ expr_nodes e ++ stmts_nodes ss
  stmts_nodes (LetThen bs ss) = binds_nodes bs ++ stmts_nodes ss
  stmts_nodes (DoThen e ss) = expr_nodes e ++ stmts_nodes ss

  pub binds_nodes : Binds → List ℕ
  binds_nodes NoBinds = []
  binds_nodes (MoreBinds x at rows bs) = rows_nodes rows ++ binds_nodes bs

  pub rows_nodes : Equations → List ℕ
  rows_nodes NoEquations = []
  rows_nodes (MoreEquations ps first e bs rows) = row_nodes ps ++ expr_nodes e ++ binds_nodes bs ++ rows_nodes rows

abbrev mutual
  pub init_nodes : InitExpr → List ℕ
  init_nodes (Each place name i) = init_nodes i
  init_nodes (Fields place fs) = field_inits_nodes fs
  init_nodes (Cell place e) = expr_nodes e

  pub field_inits_nodes : FieldInits → List ℕ
  field_inits_nodes NoFieldInits = []
  field_inits_nodes (MoreFieldInits name i fs) = init_nodes i ++ field_inits_nodes fs

abbrev pub decl_nodes : Decl → List ℕ
decl_nodes (decl.Equation b) = rows_nodes (equations b.rows)
decl_nodes (decl.Area at name (Some i) of align) = init_nodes i
decl_nodes (decl.Instance at name types context bs) = binds_nodes (binds bs)
decl_nodes d = []

abbrev pub decls_nodes : List Decl → List ℕ
decls_nodes [] = []
decls_nodes (d ∷ ds) = decl_nodes d ++ decls_nodes ds

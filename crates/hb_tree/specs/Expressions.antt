-- Expressions, as contracts see them. A type cannot hold a list of itself, so each list of parts is a type of its own.
use Rattle.std.specs.Prelude.{ℕ, ◌+◌, List}
use Rattle.hb_base.specs.declared.place.Place.{Place}
use Rattle.hb_base.specs.declared.name.Name.{Name}
use Rattle.hb_tree.specs.Patterns.{Pat}

mutual
  -- its number, its place, and what stands there
  pub data Expr : Type 0 where
    AnExpr : ℕ → Place → ExprKind → Expr

  pub data ExprKind : Type 0 where
    Var : Name → ExprKind
    Con : Name → ExprKind
    Number : ℕ → ExprKind
    Bits : ℕ → ℕ → ExprKind
    Unit : ExprKind
    Apply : Expr → Expr → ExprKind
    Run : Exprs → Exprs → ExprKind
    Lambda : List Pat → Expr → ExprKind
    Let : Binds → Expr → ExprKind
    If : Expr → Expr → Expr → ExprKind
    Case : Expr → Alts → ExprKind
    Do : Stmts → ExprKind
    Select : Expr → Name → ExprKind
    Build : Name → FieldExprs → ExprKind
    Update : Expr → FieldExprs → ExprKind
    Pair : Expr → Expr → ExprKind

  pub data Exprs : Type 0 where
    NoExprs : Exprs
    MoreExprs : Expr → Exprs → Exprs

  -- the place and the name of the first field, its value, and the other fields
  pub data FieldExprs : Type 0 where
    NoFieldExprs : FieldExprs
    MoreFieldExprs : Place → Name → Expr → FieldExprs → FieldExprs

  -- the pattern and the body of the first alternative, and the others
  pub data Alts : Type 0 where
    NoAlts : Alts
    MoreAlts : Pat → Expr → Alts → Alts

  -- the first statement by its kind, and the others
  pub data Stmts : Type 0 where
    NoStmts : Stmts
    TakeThen : Pat → Expr → Stmts → Stmts
    LetThen : Binds → Stmts → Stmts
    DoThen : Expr → Stmts → Stmts

  -- the name, the place and the rows of the first definition, and the others
  pub data Binds : Type 0 where
    NoBinds : Binds
    MoreBinds : Name → Place → Equations → Binds → Binds

  -- the patterns of the first row, the first token of its expression, the expression, what `where` defines, and the other rows
  pub data Equations : Type 0 where
    NoEquations : Equations
    MoreEquations : List Pat → Place → Expr → Binds → Equations → Equations

-- one row of a definition
pub record Equation : Type 0 where
  pub pats : List Pat
  pub first : Place
  pub body : Expr
  pub local : Binds

-- how many forms and list entries an expression is made of: each part has fewer
abbrev mutual
  pub expr_size : Expr → ℕ
  expr_size (AnExpr n p k) = kind_size k + 1

  pub kind_size : ExprKind → ℕ
  kind_size (Var n) = 0
  kind_size (Con n) = 0
  kind_size (Number n) = 0
  kind_size (Bits w n) = 0
  kind_size Unit = 0
  kind_size (Apply f x) = expr_size f + expr_size x
  kind_size (Run es os) = exprs_size es + exprs_size os
  kind_size (Lambda ps e) = expr_size e
  kind_size (Let bs e) = binds_size bs + expr_size e
  kind_size (If c t e) = expr_size c + expr_size t + expr_size e
  kind_size (Case e all) = expr_size e + alts_size all
  kind_size (Do ss) = stmts_size ss
  kind_size (Select e n) = expr_size e
  kind_size (Build c fs) = fields_size fs
  kind_size (Update e fs) = expr_size e + fields_size fs
  kind_size (Pair a b) = expr_size a + expr_size b

  pub exprs_size : Exprs → ℕ
  exprs_size NoExprs = 0
  exprs_size (MoreExprs e es) = expr_size e + exprs_size es + 1

  pub fields_size : FieldExprs → ℕ
  fields_size NoFieldExprs = 0
  fields_size (MoreFieldExprs place name e fs) = expr_size e + fields_size fs + 1

  pub alts_size : Alts → ℕ
  alts_size NoAlts = 0
  alts_size (MoreAlts p e all) = expr_size e + alts_size all + 1

  pub stmts_size : Stmts → ℕ
  stmts_size NoStmts = 0
  stmts_size (TakeThen p e ss) = expr_size e + stmts_size ss + 1
  stmts_size (LetThen bs ss) = binds_size bs + stmts_size ss + 1
  stmts_size (DoThen e ss) = expr_size e + stmts_size ss + 1

  pub binds_size : Binds → ℕ
  binds_size NoBinds = 0
  binds_size (MoreBinds name place rows bs) = equations_size rows + binds_size bs + 1

  pub equations_size : Equations → ℕ
  equations_size NoEquations = 0
  equations_size (MoreEquations ps first e bs rows) = expr_size e + binds_size bs + 1 + equations_size rows

abbrev pub equation_size : Equation → ℕ
equation_size e = expr_size e.body + binds_size e.local + 1

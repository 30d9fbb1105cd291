-- What a tree is made of that rules of names speak of: runs, blocks of definitions, patterns that bind together, selections,
-- and fields that are written together. Of two selections at one place the inner one comes first.
use Rattle.std.specs.Prelude.{List, [], ◌∷◌, ◌++◌, Some}
use Rattle.hb_base.specs.declared.place.Place.{Place}
use Rattle.hb_base.specs.declared.name.Name.{Name}
use Rattle.hb_tree.specs.Patterns.{Pat}
use Rattle.hb_tree.specs.Expressions.{Expr, AnExpr, ExprKind, Var, Con, Number, Bits, Unit, Apply, Run, Lambda, Let, If, Case, Do, Select, Build, Update, Pair, Exprs, NoExprs, MoreExprs, FieldExprs, NoFieldExprs, MoreFieldExprs, Alts, NoAlts, MoreAlts, Stmts, NoStmts, TakeThen, LetThen, DoThen, Binds, NoBinds, MoreBinds, Equations, NoEquations, MoreEquations}
use Rattle.hb_tree.specs.ExpressionViews.{binds, equations}
use Rattle.hb_tree.specs.Initials.{InitExpr, Each, Fields, Cell, FieldInits, NoFieldInits, MoreFieldInits}
use Rattle.hb_tree.specs.declared.declaration.Decl.{Decl}
use Rattle.hb_tree.specs.declared.declaration.Decl.TheVariants as decl

pub data Piece : Type 0 where
  -- operands, and the operators between them
  ARun : Exprs → Exprs → Piece
  -- the definitions of one block
  ABlock : Binds → Piece
  -- the patterns of one row, or one alone
  ARow : List Pat → Piece
  -- the first token of a selection, and its field
  ASelection : Place → Name → Piece
  AConstruction : FieldExprs → Piece
  AnUpdate : FieldExprs → Piece
  -- what the fields of a struct begin with
  AStart : FieldInits → Piece

-- a piece alone, where there is anything in it
abbrev pub block_piece : Binds → List Piece
block_piece NoBinds = []
block_piece (MoreBinds x at rows bs) = ABlock (MoreBinds x at rows bs) ∷ []

abbrev mutual
  pub expr_pieces : Expr → List Piece
  expr_pieces (AnExpr n at k) = kind_pieces at k

  pub kind_pieces : Place → ExprKind → List Piece
  kind_pieces at (Var x) = []
  kind_pieces at (Con c) = []
  kind_pieces at (Number n) = []
  kind_pieces at (Bits w n) = []
  kind_pieces at Unit = []
  kind_pieces at (Apply f x) = expr_pieces f ++ expr_pieces x
  kind_pieces at (Run es os) = ARun es os ∷ exprs_pieces es
  kind_pieces at (Lambda ps e) = ARow ps ∷ expr_pieces e
  kind_pieces at (Let bs e) = block_piece bs ++ binds_pieces bs ++ expr_pieces e
  kind_pieces at (If c t e) = expr_pieces c ++ expr_pieces t ++ expr_pieces e
  kind_pieces at (Case e all) = expr_pieces e ++ alts_pieces all
  kind_pieces at (Do ss) = stmts_pieces ss
  kind_pieces at (Select e f) = expr_pieces e ++ ASelection at f ∷ []
  kind_pieces at (Build c fs) = AConstruction fs ∷ fields_pieces fs
  kind_pieces at (Update e fs) = AnUpdate fs ∷ expr_pieces e ++ fields_pieces fs
  kind_pieces at (Pair a b) = expr_pieces a ++ expr_pieces b

  pub exprs_pieces : Exprs → List Piece
  exprs_pieces NoExprs = []
  exprs_pieces (MoreExprs e es) = expr_pieces e ++ exprs_pieces es

  pub fields_pieces : FieldExprs → List Piece
  fields_pieces NoFieldExprs = []
  fields_pieces (MoreFieldExprs at x e fs) = expr_pieces e ++ fields_pieces fs

  pub alts_pieces : Alts → List Piece
  alts_pieces NoAlts = []
  alts_pieces (MoreAlts p e all) = ARow (p ∷ []) ∷ expr_pieces e ++ alts_pieces all

  pub stmts_pieces : Stmts → List Piece
  stmts_pieces NoStmts = []
  stmts_pieces (TakeThen p e ss) = ARow (p ∷ []) ∷ expr_pieces e ++ stmts_pieces ss
  stmts_pieces (LetThen bs ss) = block_piece bs ++ binds_pieces bs ++ stmts_pieces ss
  stmts_pieces (DoThen e ss) = expr_pieces e ++ stmts_pieces ss

  -- those inside the definitions
  pub binds_pieces : Binds → List Piece
  binds_pieces NoBinds = []
  binds_pieces (MoreBinds x at rows bs) = rows_pieces rows ++ binds_pieces bs

  pub rows_pieces : Equations → List Piece
  rows_pieces NoEquations = []
  rows_pieces (MoreEquations ps first e bs rows) = ARow ps ∷ block_piece bs ++ expr_pieces e ++ binds_pieces bs ++ rows_pieces rows

abbrev mutual
  pub init_pieces : InitExpr → List Piece
  init_pieces (Each place name i) = init_pieces i
  init_pieces (Fields place fs) = AStart fs ∷ field_inits_pieces fs
  init_pieces (Cell place e) = expr_pieces e

  pub field_inits_pieces : FieldInits → List Piece
  field_inits_pieces NoFieldInits = []
  field_inits_pieces (MoreFieldInits name i fs) = init_pieces i ++ field_inits_pieces fs

-- the equations of an instance are a block
abbrev pub decl_pieces : Decl → List Piece
decl_pieces (decl.Equation b) = rows_pieces (equations b.rows)
decl_pieces (decl.Area at name (Some i) of align) = init_pieces i
decl_pieces (decl.Instance at name types context bs) = block_piece (binds bs) ++ binds_pieces (binds bs)
decl_pieces d = []

abbrev pub decls_pieces : List Decl → List Piece
decls_pieces [] = []
decls_pieces (d ∷ ds) = decl_pieces d ++ decls_pieces ds

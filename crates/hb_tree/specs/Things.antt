-- How many things of a tree can get a number. Each expression, pattern, type and predicate is one, and so is each name that is
-- written down, field, alternative, statement, definition, row, part, initialiser and declaration. What becomes another form
-- once names are resolved counts as that too: each operator of a run is applied to its two operands, two things more, and a
-- pair of expressions is a constructor applied to its two parts, two things more.
use Rattle.std.specs.Prelude.{ℕ, ◌+◌, List, [], ◌∷◌, Option, Some, None}
use Rattle.hb_tree.specs.declared.types.NameAt.{NameAt}
use Rattle.hb_tree.specs.declared.types.PredExpr.{PredExpr}
use Rattle.hb_tree.specs.declared.types.PredExpr.TheVariants as pred
use Rattle.hb_tree.specs.declared.types.Sig.{Sig}
use Rattle.hb_tree.specs.declared.declaration.FieldDecl.{FieldDecl}
use Rattle.hb_tree.specs.declared.declaration.DataCon.{DataCon}
use Rattle.hb_tree.specs.declared.declaration.BitPart.{BitPart}
use Rattle.hb_tree.specs.declared.declaration.BitPart.TheVariants as bit_part
use Rattle.hb_tree.specs.declared.declaration.BitCon.{BitCon}
use Rattle.hb_tree.specs.declared.declaration.StructPart.{StructPart}
use Rattle.hb_tree.specs.declared.declaration.StructPart.TheVariants as struct_part
use Rattle.hb_tree.specs.declared.declaration.Depend.{Depend}
use Rattle.hb_tree.specs.declared.declaration.Decl.{Decl}
use Rattle.hb_tree.specs.declared.declaration.Decl.TheVariants as decl
use Rattle.hb_tree.specs.declared.declaration.Program.{Program}
use Rattle.hb_tree.specs.Types.{TypeExpr, TypeKind, AType}
use Rattle.hb_tree.specs.Types as types
use Rattle.hb_tree.specs.Patterns.{Pat, APat, PatKind, Pats, NoPats, MorePats, FieldPats, NoFieldPats, MoreFieldPats}
use Rattle.hb_tree.specs.Patterns as pats
use Rattle.hb_tree.specs.Expressions.{Expr, AnExpr, ExprKind, Exprs, NoExprs, MoreExprs, FieldExprs, NoFieldExprs, MoreFieldExprs, Alts, NoAlts, MoreAlts, Stmts, NoStmts, TakeThen, LetThen, DoThen, Binds, NoBinds, MoreBinds, Equations, NoEquations, MoreEquations}
use Rattle.hb_tree.specs.Expressions as exprs
use Rattle.hb_tree.specs.ExpressionViews.{equations, binds}
use Rattle.hb_tree.specs.Initials.{InitExpr, Each, Fields, Cell, FieldInits, NoFieldInits, MoreFieldInits}

-- those of the parts of a list
abbrev pub total : {A : Type 0} → (A → ℕ) → List A → ℕ
total things [] = 0
total things (x ∷ xs) = things x + total things xs

abbrev mutual
  pub type_things : TypeExpr → ℕ
  type_things (AType place kind) = type_kind_things kind + 1

  pub type_kind_things : TypeKind → ℕ
  type_kind_things (types.Con name) = 0
  type_kind_things (types.Var name) = 0
  type_kind_things (types.Number k) = 0
  type_kind_things types.Unit = 0
  type_kind_things (types.Pair a b) = type_things a + type_things b
  type_kind_things (types.Apply a b) = type_things a + type_things b
  type_kind_things (types.Arrow a b) = type_things a + type_things b
  type_kind_things (types.Sum a b) = type_things a + type_things b

abbrev pub pred_things : PredExpr → ℕ
pred_things (pred.Class name all) = total type_things all + 1
pred_things (pred.Sum a b c) = type_things a + type_things b + type_things c + 1
pred_things (pred.Product a b c) = type_things a + type_things b + type_things c + 1
pred_things (pred.Power a b) = type_things a + type_things b + 1
pred_things (pred.AtMost a b) = type_things a + type_things b + 1

abbrev mutual
  pub pat_things : Pat → ℕ
  pat_things (APat number place kind) = pat_kind_things kind + 1

  pub pat_kind_things : PatKind → ℕ
  pat_kind_things pats.Any = 0
  pat_kind_things (pats.Var name) = 0
  pat_kind_things (pats.Number k) = 0
  pat_kind_things (pats.Bits width k) = 0
  pat_kind_things (pats.Con name ps) = pats_things ps
  pat_kind_things (pats.Fields name fs) = field_pats_things fs
  pat_kind_things (pats.Pair a b) = pat_things a + pat_things b
  pat_kind_things pats.Unit = 0

  pub pats_things : Pats → ℕ
  pats_things NoPats = 0
  pats_things (MorePats p ps) = pat_things p + pats_things ps

  pub field_pats_things : FieldPats → ℕ
  field_pats_things NoFieldPats = 0
  field_pats_things (MoreFieldPats place name p fs) = pat_things p + 1 + field_pats_things fs

abbrev mutual
  pub expr_things : Expr → ℕ
  expr_things (AnExpr number place kind) = expr_kind_things kind + 1

  pub expr_kind_things : ExprKind → ℕ
  expr_kind_things (exprs.Var name) = 0
  expr_kind_things (exprs.Con name) = 0
  expr_kind_things (exprs.Number k) = 0
  expr_kind_things (exprs.Bits width k) = 0
  expr_kind_things exprs.Unit = 0
  expr_kind_things (exprs.Apply f x) = expr_things f + expr_things x
  expr_kind_things (exprs.Run es os) = exprs_things es + operators_things os
  expr_kind_things (exprs.Lambda ps e) = total pat_things ps + expr_things e
  expr_kind_things (exprs.Let bs e) = binds_things bs + expr_things e
  expr_kind_things (exprs.If c a b) = expr_things c + expr_things a + expr_things b
  expr_kind_things (exprs.Case e alts) = expr_things e + alts_things alts
  expr_kind_things (exprs.Do ss) = stmts_things ss
  expr_kind_things (exprs.Select e name) = expr_things e
  expr_kind_things (exprs.Build c fs) = field_exprs_things fs
  expr_kind_things (exprs.Update e fs) = expr_things e + field_exprs_things fs
  expr_kind_things (exprs.Pair a b) = expr_things a + expr_things b + 2

  pub exprs_things : Exprs → ℕ
  exprs_things NoExprs = 0
  exprs_things (MoreExprs e es) = expr_things e + exprs_things es

  pub operators_things : Exprs → ℕ
  operators_things NoExprs = 0
  operators_things (MoreExprs o os) = expr_things o + 2 + operators_things os

  pub field_exprs_things : FieldExprs → ℕ
  field_exprs_things NoFieldExprs = 0
  field_exprs_things (MoreFieldExprs place name e fs) = expr_things e + 1 + field_exprs_things fs

  pub alts_things : Alts → ℕ
  alts_things NoAlts = 0
  alts_things (MoreAlts p e alts) = pat_things p + expr_things e + 1 + alts_things alts

  pub stmts_things : Stmts → ℕ
  stmts_things NoStmts = 0
  stmts_things (TakeThen p e ss) = pat_things p + expr_things e + 1 + stmts_things ss
  stmts_things (LetThen bs ss) = binds_things bs + 1 + stmts_things ss
  stmts_things (DoThen e ss) = expr_things e + 1 + stmts_things ss

  pub binds_things : Binds → ℕ
  binds_things NoBinds = 0
  binds_things (MoreBinds name place rows bs) = rows_things rows + 1 + binds_things bs

  pub rows_things : Equations → ℕ
  rows_things NoEquations = 0
  rows_things (MoreEquations ps first e bs rows) = total pat_things ps + expr_things e + binds_things bs + 1 + rows_things rows

abbrev pub name_things : NameAt → ℕ
name_things name = 1

abbrev pub names_things : List NameAt → ℕ
names_things names = total name_things names

abbrev pub sig_things : Sig → ℕ
sig_things s = names_things s.names + total pred_things s.context + type_things s.body + 1

abbrev pub data_con_things : DataCon → ℕ
data_con_things c = total type_things c.args + 1

abbrev pub fields_things : FieldDecl → ℕ
fields_things f = names_things f.names + type_things f.of

abbrev pub bit_part_things : BitPart → ℕ
bit_part_things (bit_part.Tag width k) = 1
bit_part_things (bit_part.Fields f) = fields_things f + 1

abbrev pub bit_con_things : BitCon → ℕ
bit_con_things c = total bit_part_things c.parts + 1

abbrev pub struct_part_things : StructPart → ℕ
struct_part_things (struct_part.Pad k) = 1
struct_part_things (struct_part.Fields f) = fields_things f + 1

abbrev pub depend_things : Depend → ℕ
depend_things d = names_things d.from + names_things d.to + 1

abbrev mutual
  pub init_things : InitExpr → ℕ
  init_things (Each place name i) = init_things i + 2
  init_things (Fields place fs) = field_inits_things fs + 1
  init_things (Cell place e) = expr_things e + 1

  pub field_inits_things : FieldInits → ℕ
  field_inits_things NoFieldInits = 0
  field_inits_things (MoreFieldInits name i fs) = init_things i + 1 + field_inits_things fs

abbrev pub start_things : Option InitExpr → ℕ
start_things None = 0
start_things (Some i) = init_things i

abbrev pub decl_things : Decl → ℕ
decl_things (decl.Sig s) = sig_things s
decl_things (decl.Equation b) = rows_things (equations b.rows) + 1
decl_things (decl.Fixity place fix k names) = names_things names + 1
decl_things (decl.Data place name params cons) = names_things params + total data_con_things cons + 2
decl_things (decl.Bitdata place name width cons) = total bit_con_things cons + 2
decl_things (decl.Struct place name bytes parts) = total struct_part_things parts + 2
decl_things (decl.Area place name init a align) = start_things init + type_things a + 2
decl_things (decl.Port place name dir a width k) = type_things a + 2
decl_things (decl.Class place ps name params ds sigs) = total pred_things ps + names_things params + total depend_things ds + total sig_things sigs + 2
decl_things (decl.Instance place name all ps rows) = total type_things all + total pred_things ps + binds_things (binds rows) + 2

abbrev pub program_things : Program → ℕ
program_things p = total decl_things p.decls + 1

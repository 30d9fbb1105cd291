-- The forms of a program, as their depth is told. The parts of a form stand in the order of the program's nodes.
-- Alternatives, statements, fields, constructors of a declaration, contexts and lists of parts are no level.
use Rattle.std.specs.Prelude.{ℕ, List, [], ◌∷◌, Option, Some, None}
use Rattle.hb_base.specs.declared.place.Place.{Place}
use Rattle.hb_tree.specs.declared.types.NameAt.{NameAt}
use Rattle.hb_tree.specs.declared.types.PredExpr.{PredExpr}
use Rattle.hb_tree.specs.declared.types.PredExpr.TheVariants as pred
use Rattle.hb_tree.specs.declared.types.Sig.{Sig}
use Rattle.hb_tree.specs.declared.declaration.FieldDecl.{FieldDecl}
use Rattle.hb_tree.specs.declared.declaration.DataCon.{DataCon}
use Rattle.hb_tree.specs.declared.declaration.BitPart.{BitPart}
use Rattle.hb_tree.specs.declared.declaration.BitPart.TheVariants as bit_part
use Rattle.hb_tree.specs.declared.declaration.BitCon.{BitCon}
use Rattle.hb_tree.specs.declared.declaration.StructPart.{StructPart}
use Rattle.hb_tree.specs.declared.declaration.StructPart.TheVariants as struct_part
use Rattle.hb_tree.specs.declared.declaration.Depend.{Depend}
use Rattle.hb_tree.specs.declared.declaration.Decl.{Decl}
use Rattle.hb_tree.specs.declared.declaration.Decl.TheVariants as decl
use Rattle.hb_tree.specs.declared.declaration.Program.{Program}
use Rattle.hb_tree.specs.declared.statement.Bind.{Bind}
use Rattle.hb_tree.specs.ExpressionViews.{equations}
use Rattle.hb_tree.specs.Types.{TypeExpr, TypeKind, AType}
use Rattle.hb_tree.specs.Types as types
use Rattle.hb_tree.specs.Patterns.{Pat, APat, PatKind, Pats, NoPats, MorePats, FieldPats, NoFieldPats, MoreFieldPats}
use Rattle.hb_tree.specs.Patterns as pats
use Rattle.hb_tree.specs.Expressions.{Expr, AnExpr, ExprKind, Exprs, NoExprs, MoreExprs, FieldExprs, NoFieldExprs, MoreFieldExprs, Alts, NoAlts, MoreAlts, Stmts, NoStmts, TakeThen, LetThen, DoThen, Binds, NoBinds, MoreBinds, Equations, NoEquations, MoreEquations}
use Rattle.hb_tree.specs.Expressions as exprs
use Rattle.hb_tree.specs.Initials.{InitExpr, Each, Fields, Cell, FieldInits, NoFieldInits, MoreFieldInits}
use Rattle.hb_read_expressions.specs.Nodes.{exprs_from}

mutual
  pub data Form : Type 0 where
    -- its parts are so many levels deeper
    Whole : ℕ → Option Place → Forms → Form
    -- the first form applied to the second
    Applied : Place → Form → Form → Form
    -- the functions from the first form to the second
    Arrowed : Place → Form → Form → Form

  pub data Forms : Type 0 where
    NoForms : Forms
    MoreForms : Form → Forms → Forms

-- a form of one level
abbrev pub plain : Place → Forms → Form
plain place parts = Whole 1 (Some place) parts

-- what is no level: its parts are as deep as a part in its place is
abbrev pub hidden : Forms → Form
hidden parts = Whole 0 None parts

-- what is no level and has no parts, as a name or a number
abbrev pub leaf : Form
leaf = hidden NoForms

abbrev pub one : Form → Forms
one a = MoreForms a NoForms

abbrev pub two : Form → Form → Forms
two a b = MoreForms a (one b)

abbrev pub three : Form → Form → Form → Forms
three a b c = MoreForms a (two b c)

abbrev pub four : Form → Form → Form → Form → Forms
four a b c d = MoreForms a (three b c d)

-- some forms, and then others
abbrev pub and : Forms → Forms → Forms
and NoForms others = others
and (MoreForms f fs) others = MoreForms f (and fs others)

-- the forms of the things of a list
abbrev pub forms : {A : Type 0} → (A → Form) → List A → Forms
forms f [] = NoForms
forms f (x ∷ xs) = MoreForms (f x) (forms f xs)

-- Types and predicates.

abbrev mutual
  pub type_form : TypeExpr → Form
  type_form (AType place kind) = type_kind_form place kind

  pub type_kind_form : Place → TypeKind → Form
  type_kind_form place (types.Con name) = plain place NoForms
  type_kind_form place (types.Var name) = plain place NoForms
  type_kind_form place (types.Number k) = plain place NoForms
  type_kind_form place types.Unit = plain place NoForms
  type_kind_form place (types.Pair a b) = plain place (two (type_form a) (type_form b))
  type_kind_form place (types.Apply a b) = Applied place (type_form a) (type_form b)
  type_kind_form place (types.Arrow a b) = Arrowed place (type_form a) (type_form b)
  type_kind_form place (types.Sum a b) = plain place (two (type_form a) (type_form b))

-- a predicate; only a class has a place of its own
abbrev pub pred_form : PredExpr → Form
pred_form (pred.Class name all) = plain name.place (forms type_form all)
pred_form (pred.Sum a b c) = Whole 1 None (three (type_form a) (type_form b) (type_form c))
pred_form (pred.Product a b c) = Whole 1 None (three (type_form a) (type_form b) (type_form c))
pred_form (pred.Power a b) = Whole 1 None (two (type_form a) (type_form b))
pred_form (pred.AtMost a b) = Whole 1 None (two (type_form a) (type_form b))

abbrev pub context_form : List PredExpr → Form
context_form ps = hidden (forms pred_form ps)

-- Patterns.

abbrev mutual
  pub pat_form : Pat → Form
  pat_form (APat number place kind) = plain place (pat_parts kind)

  pub pat_parts : PatKind → Forms
  pat_parts pats.Any = NoForms
  pat_parts (pats.Var name) = NoForms
  pat_parts (pats.Number k) = NoForms
  pat_parts (pats.Bits width k) = NoForms
  pat_parts (pats.Con name ps) = pats_forms ps
  pat_parts (pats.Fields name fs) = field_pats_forms fs
  pat_parts (pats.Pair a b) = two (pat_form a) (pat_form b)
  pat_parts pats.Unit = NoForms

  pub pats_forms : Pats → Forms
  pats_forms NoPats = NoForms
  pats_forms (MorePats p ps) = MoreForms (pat_form p) (pats_forms ps)

  pub field_pats_forms : FieldPats → Forms
  field_pats_forms NoFieldPats = NoForms
  field_pats_forms (MoreFieldPats place name p fs) = MoreForms (hidden (one (pat_form p))) (field_pats_forms fs)

-- Expressions.

abbrev mutual
  pub expr_form : Expr → Form
  expr_form (AnExpr number place kind) = expr_kind_form place kind

  -- the operands and the operators of a run are as many levels deeper as it has operators
  pub expr_kind_form : Place → ExprKind → Form
  expr_kind_form place (exprs.Var name) = plain place NoForms
  expr_kind_form place (exprs.Con name) = plain place NoForms
  expr_kind_form place (exprs.Number k) = plain place NoForms
  expr_kind_form place (exprs.Bits width k) = plain place NoForms
  expr_kind_form place exprs.Unit = plain place NoForms
  expr_kind_form place (exprs.Apply f x) = Applied place (expr_form f) (expr_form x)
  expr_kind_form place (exprs.Run es os) = Whole (exprs_from 0 os) (Some place) (run_forms es (exprs_forms os))
  expr_kind_form place (exprs.Lambda ps e) = plain place (and (forms pat_form ps) (one (expr_form e)))
  expr_kind_form place (exprs.Let bs e) = plain place (and (binds_forms bs) (one (expr_form e)))
  expr_kind_form place (exprs.If c a b) = plain place (three (expr_form c) (expr_form a) (expr_form b))
  expr_kind_form place (exprs.Case e alts) = plain place (MoreForms (expr_form e) (alts_forms alts))
  expr_kind_form place (exprs.Do ss) = plain place (stmts_forms ss)
  expr_kind_form place (exprs.Select e name) = plain place (one (expr_form e))
  expr_kind_form place (exprs.Build c fs) = plain place (fields_forms fs)
  expr_kind_form place (exprs.Update e fs) = plain place (MoreForms (expr_form e) (fields_forms fs))
  expr_kind_form place (exprs.Pair a b) = plain place (two (expr_form a) (expr_form b))

  pub exprs_forms : Exprs → Forms
  exprs_forms NoExprs = NoForms
  exprs_forms (MoreExprs e es) = MoreForms (expr_form e) (exprs_forms es)

  -- operands, with an operator between two of them
  pub run_forms : Exprs → Forms → Forms
  run_forms NoExprs os = NoForms
  run_forms (MoreExprs e es) NoForms = MoreForms (expr_form e) (run_forms es NoForms)
  run_forms (MoreExprs e es) (MoreForms o os) = MoreForms (expr_form e) (MoreForms o (run_forms es os))

  pub fields_forms : FieldExprs → Forms
  fields_forms NoFieldExprs = NoForms
  fields_forms (MoreFieldExprs place name e fs) = MoreForms (hidden (one (expr_form e))) (fields_forms fs)

  pub alts_forms : Alts → Forms
  alts_forms NoAlts = NoForms
  alts_forms (MoreAlts p e alts) = MoreForms (hidden (two (pat_form p) (expr_form e))) (alts_forms alts)

  pub stmts_forms : Stmts → Forms
  stmts_forms NoStmts = NoForms
  stmts_forms (TakeThen p e ss) = MoreForms (hidden (two (pat_form p) (expr_form e))) (stmts_forms ss)
  stmts_forms (LetThen bs ss) = MoreForms (hidden (binds_forms bs)) (stmts_forms ss)
  stmts_forms (DoThen e ss) = MoreForms (hidden (one (expr_form e))) (stmts_forms ss)

  -- the rows of all definitions
  pub binds_forms : Binds → Forms
  binds_forms NoBinds = NoForms
  binds_forms (MoreBinds name place rows bs) = and (rows_forms place rows) (binds_forms bs)

  -- each row with its patterns, its body and its local rows
  pub rows_forms : Place → Equations → Forms
  rows_forms place NoEquations = NoForms
  rows_forms place (MoreEquations ps first e bs rows) = MoreForms (plain place (and (forms pat_form ps) (MoreForms (expr_form e) (binds_forms bs)))) (rows_forms place rows)

-- Declarations.

abbrev pub name_form : NameAt → Form
name_form name = leaf

abbrev pub names_form : List NameAt → Form
names_form names = hidden (forms name_form names)

abbrev pub types_form : List TypeExpr → Form
types_form all = hidden (forms type_form all)

abbrev pub sig_form : Sig → Form
sig_form s = plain s.place (three (names_form s.names) (context_form s.context) (type_form s.body))

-- the only row
abbrev pub row_of : Forms → Form
row_of NoForms = leaf
row_of (MoreForms row rows) = row

-- an equation by itself or in an instance, which has one row
abbrev pub equation_form : Bind → Form
equation_form b = row_of (rows_forms b.place (equations b.rows))

abbrev pub data_con_form : DataCon → Form
data_con_form c = hidden (two leaf (types_form c.args))

abbrev pub fields_form : FieldDecl → Form
fields_form f = hidden (two (names_form f.names) (type_form f.of))

abbrev pub bit_part_form : BitPart → Form
bit_part_form (bit_part.Tag width k) = leaf
bit_part_form (bit_part.Fields f) = hidden (one (fields_form f))

abbrev pub bit_con_form : BitCon → Form
bit_con_form c = hidden (MoreForms leaf (forms bit_part_form c.parts))

abbrev pub struct_part_form : StructPart → Form
struct_part_form (struct_part.Pad k) = leaf
struct_part_form (struct_part.Fields f) = hidden (one (fields_form f))

abbrev pub depend_form : Depend → Form
depend_form d = hidden (two (names_form d.from) (names_form d.to))

-- an initialiser
abbrev mutual
  pub init_form : InitExpr → Form
  init_form (Each place name i) = plain place (two leaf (init_form i))
  init_form (Fields place fs) = plain place (field_inits_forms fs)
  init_form (Cell place e) = plain place (one (expr_form e))

  pub field_inits_forms : FieldInits → Forms
  field_inits_forms NoFieldInits = NoForms
  field_inits_forms (MoreFieldInits name i fs) = MoreForms (hidden (two leaf (init_form i))) (field_inits_forms fs)

abbrev pub start_form : Option InitExpr → Form
start_form None = leaf
start_form (Some i) = hidden (one (init_form i))

-- an equation is a declaration by its row
abbrev pub decl_form : Decl → Form
decl_form (decl.Sig s) = sig_form s
decl_form (decl.Equation b) = hidden (one (equation_form b))
decl_form (decl.Fixity place fix k names) = plain place (one (names_form names))
decl_form (decl.Data place name params cons) = plain place (three leaf (names_form params) (hidden (forms data_con_form cons)))
decl_form (decl.Bitdata place name width cons) = plain place (three leaf leaf (hidden (forms bit_con_form cons)))
decl_form (decl.Struct place name bytes parts) = plain place (three leaf leaf (hidden (forms struct_part_form parts)))
decl_form (decl.Area place name init a align) = plain place (four leaf (start_form init) (type_form a) leaf)
decl_form (decl.Port place name dir a width k) = plain place (two leaf (type_form a))
decl_form (decl.Class place ps name params ds sigs) = plain place (MoreForms (context_form ps) (four leaf (names_form params) (hidden (forms depend_form ds)) (hidden (forms sig_form sigs))))
decl_form (decl.Instance place name all ps rows) = plain place (four leaf (types_form all) (context_form ps) (hidden (forms equation_form rows)))

-- a program is one level, and has no place
abbrev pub program_form : Program → Form
program_form p = Whole 1 None (forms decl_form p.decls)

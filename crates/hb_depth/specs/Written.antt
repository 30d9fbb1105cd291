-- Programs as they are written: a run has one operand more than operators, and each equation by itself or in an instance is
-- one row. Each program that a source has is such a program.
use Rattle.std.specs.Prelude.{List, [], ◌∷◌, Option, Some, None}
use Rattle.hb_tree.specs.declared.declaration.Decl.{Decl}
use Rattle.hb_tree.specs.declared.declaration.Decl.TheVariants as decl
use Rattle.hb_tree.specs.declared.declaration.Program.{Program}
use Rattle.hb_tree.specs.declared.statement.Bind.{Bind}
use Rattle.hb_tree.specs.ExpressionViews.{equations}
use Rattle.hb_tree.specs.Expressions.{Expr, AnExpr, ExprKind, Var, Con, Number, Bits, Unit as UnitKind, Apply, Run, Lambda, Let, If, Case, Do, Select, Build, Update, Pair, Exprs, NoExprs, MoreExprs, FieldExprs, NoFieldExprs, MoreFieldExprs, Alts, NoAlts, MoreAlts, Stmts, NoStmts, TakeThen, LetThen, DoThen, Binds, NoBinds, MoreBinds, Equations, NoEquations, MoreEquations}
use Rattle.hb_tree.specs.Initials.{InitExpr, Each, Fields, Cell, FieldInits, NoFieldInits, MoreFieldInits}

abbrev pub IsNone : Exprs → Type 0
IsNone NoExprs = Unit {0}
IsNone (MoreExprs e es) = ⊥

-- the first are one more than the second
abbrev pub IsOneMore : Exprs → Exprs → Type 0
IsOneMore NoExprs os = ⊥
IsOneMore (MoreExprs e es) NoExprs = IsNone es
IsOneMore (MoreExprs e es) (MoreExprs o os) = IsOneMore es os

abbrev mutual
  pub IsWritten : Expr → Type 0
  IsWritten (AnExpr number place kind) = IsWrittenKind kind

  pub IsWrittenKind : ExprKind → Type 0
  IsWrittenKind (Var name) = Unit {0}
  IsWrittenKind (Con name) = Unit {0}
  IsWrittenKind (Number k) = Unit {0}
  IsWrittenKind (Bits width k) = Unit {0}
  IsWrittenKind UnitKind = Unit {0}
  IsWrittenKind (Apply f x) = IsWritten f × IsWritten x
  IsWrittenKind (Run es os) = IsOneMore es os × AreWritten es × AreWritten os
  IsWrittenKind (Lambda ps e) = IsWritten e
  IsWrittenKind (Let bs e) = AreWrittenBinds bs × IsWritten e
  IsWrittenKind (If c a b) = IsWritten c × IsWritten a × IsWritten b
  IsWrittenKind (Case e alts) = IsWritten e × AreWrittenAlts alts
  IsWrittenKind (Do ss) = AreWrittenStmts ss
  IsWrittenKind (Select e name) = IsWritten e
  IsWrittenKind (Build c fs) = AreWrittenFields fs
  IsWrittenKind (Update e fs) = IsWritten e × AreWrittenFields fs
  IsWrittenKind (Pair a b) = IsWritten a × IsWritten b

  pub AreWritten : Exprs → Type 0
  AreWritten NoExprs = Unit {0}
  AreWritten (MoreExprs e es) = IsWritten e × AreWritten es

  pub AreWrittenFields : FieldExprs → Type 0
  AreWrittenFields NoFieldExprs = Unit {0}
  AreWrittenFields (MoreFieldExprs place name e fs) = IsWritten e × AreWrittenFields fs

  pub AreWrittenAlts : Alts → Type 0
  AreWrittenAlts NoAlts = Unit {0}
  AreWrittenAlts (MoreAlts p e alts) = IsWritten e × AreWrittenAlts alts

  pub AreWrittenStmts : Stmts → Type 0
  AreWrittenStmts NoStmts = Unit {0}
  AreWrittenStmts (TakeThen p e ss) = IsWritten e × AreWrittenStmts ss
  AreWrittenStmts (LetThen bs ss) = AreWrittenBinds bs × AreWrittenStmts ss
  AreWrittenStmts (DoThen e ss) = IsWritten e × AreWrittenStmts ss

  pub AreWrittenBinds : Binds → Type 0
  AreWrittenBinds NoBinds = Unit {0}
  AreWrittenBinds (MoreBinds name place rows bs) = AreWrittenRows rows × AreWrittenBinds bs

  pub AreWrittenRows : Equations → Type 0
  AreWrittenRows NoEquations = Unit {0}
  AreWrittenRows (MoreEquations ps first e bs rows) = IsWritten e × AreWrittenBinds bs × AreWrittenRows rows

abbrev pub HasNoRow : Equations → Type 0
HasNoRow NoEquations = Unit {0}
HasNoRow (MoreEquations ps first e bs rows) = ⊥

abbrev pub IsOneRow : Equations → Type 0
IsOneRow NoEquations = ⊥
IsOneRow (MoreEquations ps first e bs rows) = HasNoRow rows × IsWritten e × AreWrittenBinds bs

abbrev pub IsWrittenEquation : Bind → Type 0
IsWrittenEquation b = IsOneRow (equations b.rows)

abbrev pub AreWrittenEquations : List Bind → Type 0
AreWrittenEquations [] = Unit {0}
AreWrittenEquations (b ∷ bs) = IsWrittenEquation b × AreWrittenEquations bs

abbrev mutual
  pub IsWrittenInit : InitExpr → Type 0
  IsWrittenInit (Each place name i) = IsWrittenInit i
  IsWrittenInit (Fields place fs) = AreWrittenInits fs
  IsWrittenInit (Cell place e) = IsWritten e

  pub AreWrittenInits : FieldInits → Type 0
  AreWrittenInits NoFieldInits = Unit {0}
  AreWrittenInits (MoreFieldInits name i fs) = IsWrittenInit i × AreWrittenInits fs

abbrev pub IsWrittenStart : Option InitExpr → Type 0
IsWrittenStart None = Unit {0}
IsWrittenStart (Some i) = IsWrittenInit i

abbrev pub IsWrittenDecl : Decl → Type 0
IsWrittenDecl (decl.Sig s) = Unit {0}
IsWrittenDecl (decl.Equation b) = IsWrittenEquation b
IsWrittenDecl (decl.Fixity place fix k names) = Unit {0}
IsWrittenDecl (decl.Data place name params cons) = Unit {0}
IsWrittenDecl (decl.Bitdata place name width cons) = Unit {0}
IsWrittenDecl (decl.Struct place name bytes parts) = Unit {0}
IsWrittenDecl (decl.Area place name init a align) = IsWrittenStart init
IsWrittenDecl (decl.Port place name dir a width k) = Unit {0}
IsWrittenDecl (decl.Class place ps name params ds sigs) = Unit {0}
IsWrittenDecl (decl.Instance place name all ps rows) = AreWrittenEquations rows

abbrev pub AreWrittenDecls : List Decl → Type 0
AreWrittenDecls [] = Unit {0}
AreWrittenDecls (d ∷ ds) = IsWrittenDecl d × AreWrittenDecls ds

abbrev pub IsWrittenProgram : Program → Type 0
IsWrittenProgram p = AreWrittenDecls p.decls

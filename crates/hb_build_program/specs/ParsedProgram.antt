-- Programs as they are read: the numbers in the tree are all 0, each definition has one row, and each run of operands has
-- one operator fewer.
use Rattle.std.specs.Prelude.{List, [], ◌∷◌, Option, Some, None}
use Rattle.hb_tree.specs.declared.declaration.Decl.{Decl}
use Rattle.hb_tree.specs.declared.declaration.Decl.TheVariants as decl
use Rattle.hb_tree.specs.declared.declaration.Program.{Program}
use Rattle.hb_tree.specs.declared.statement.Bind.{Bind}
use Rattle.hb_tree.specs.ExpressionViews.{equations}
use Rattle.hb_tree.specs.Initials.{InitExpr, Each, Fields, Cell, FieldInits, NoFieldInits, MoreFieldInits}
use Rattle.hb_build_expressions.specs.Parsed.{IsParsed as IsParsedExpr, IsOneRow}

abbrev pub IsParsedBind : Bind → Type 0
IsParsedBind b = IsOneRow (equations b.rows)

-- each of the list is so
abbrev pub AllOf : {A : Type 0} → (A → Type 0) → List A → Type 0
AllOf P [] = Unit {0}
AllOf P (x ∷ xs) = P x × AllOf P xs

abbrev mutual
  pub IsParsedInit : InitExpr → Type 0
  IsParsedInit (Each place name i) = IsParsedInit i
  IsParsedInit (Fields place fs) = AreParsedInits fs
  IsParsedInit (Cell place e) = IsParsedExpr e

  pub AreParsedInits : FieldInits → Type 0
  AreParsedInits NoFieldInits = Unit {0}
  AreParsedInits (MoreFieldInits name i fs) = IsParsedInit i × AreParsedInits fs

abbrev pub IsParsedStart : Option InitExpr → Type 0
IsParsedStart None = Unit {0}
IsParsedStart (Some i) = IsParsedInit i

-- only equations, the start of an area and the equations of an instance hold expressions
abbrev pub IsParsedDecl : Decl → Type 0
IsParsedDecl (decl.Sig s) = Unit {0}
IsParsedDecl (decl.Equation b) = IsParsedBind b
IsParsedDecl (decl.Fixity p fix k names) = Unit {0}
IsParsedDecl (decl.Data p name params cons) = Unit {0}
IsParsedDecl (decl.Bitdata p name width cons) = Unit {0}
IsParsedDecl (decl.Struct p name bytes parts) = Unit {0}
IsParsedDecl (decl.Area p name init a align) = IsParsedStart init
IsParsedDecl (decl.Port p name dir a width k) = Unit {0}
IsParsedDecl (decl.Class p ps name params ds sigs) = Unit {0}
IsParsedDecl (decl.Instance p name types ps rows) = AllOf IsParsedBind rows

abbrev pub IsParsed : Program → Type 0
IsParsed p = AllOf IsParsedDecl p.decls

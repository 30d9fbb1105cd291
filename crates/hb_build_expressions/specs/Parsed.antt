-- Expressions as they are read: the numbers in the tree are all 0, each local definition has one row, and a run of
-- operands has one operator fewer, each of which is a variable.
use Rattle.std.specs.Prelude.{◌≡◌, List, [], ◌∷◌}
use Rattle.hb_tree.specs.Patterns.{Pat}
use Rattle.hb_tree.specs.Expressions.{Expr, AnExpr, ExprKind, Exprs, NoExprs, MoreExprs, FieldExprs, NoFieldExprs, MoreFieldExprs, Alts, NoAlts, MoreAlts, Stmts, NoStmts, TakeThen, LetThen, DoThen, Binds, NoBinds, MoreBinds, Equations, NoEquations, MoreEquations}
use Rattle.hb_tree.specs.Expressions as tree
use Rattle.hb_build.specs.Unnumbered.{IsUnnumbered}

-- no pattern of the list has a number
abbrev pub AllUnnumbered : List Pat → Type 0
AllUnnumbered [] = Unit {0}
AllUnnumbered (p ∷ ps) = IsUnnumbered p × AllUnnumbered ps

-- an operator between operands
abbrev pub IsOperator : Expr → Type 0
IsOperator (AnExpr number place (tree.Var name)) = number ≡ 0
IsOperator _ = ⊥

abbrev mutual
  pub IsParsed : Expr → Type 0
  IsParsed (AnExpr number place kind) = (number ≡ 0) × IsParsedKind kind

  pub IsParsedKind : ExprKind → Type 0
  IsParsedKind (tree.Var n) = Unit {0}
  IsParsedKind (tree.Con n) = Unit {0}
  IsParsedKind (tree.Number k) = Unit {0}
  IsParsedKind (tree.Bits width k) = Unit {0}
  IsParsedKind tree.Unit = Unit {0}
  IsParsedKind (tree.Apply f x) = IsParsed f × IsParsed x
  IsParsedKind (tree.Run es os) = IsRun es os
  IsParsedKind (tree.Lambda ps e) = AllUnnumbered ps × IsParsed e
  IsParsedKind (tree.Let bs e) = AreParsedBinds bs × IsParsed e
  IsParsedKind (tree.If c a b) = IsParsed c × (IsParsed a × IsParsed b)
  IsParsedKind (tree.Case e alts) = IsParsed e × AreParsedAlts alts
  IsParsedKind (tree.Do ss) = AreParsedStmts ss
  IsParsedKind (tree.Select e n) = IsParsed e
  IsParsedKind (tree.Build c fs) = AreParsedFields fs
  IsParsedKind (tree.Update e fs) = IsParsed e × AreParsedFields fs
  IsParsedKind (tree.Pair a b) = IsParsed a × IsParsed b

  -- operands with an operator between each two
  pub IsRun : Exprs → Exprs → Type 0
  IsRun NoExprs os = ⊥
  IsRun (MoreExprs e NoExprs) NoExprs = IsParsed e
  IsRun (MoreExprs e (MoreExprs f es)) NoExprs = ⊥
  IsRun (MoreExprs e es) (MoreExprs o os) = IsParsed e × (IsOperator o × IsRun es os)

  pub AreParsedFields : FieldExprs → Type 0
  AreParsedFields NoFieldExprs = Unit {0}
  AreParsedFields (MoreFieldExprs place name e fs) = IsParsed e × AreParsedFields fs

  pub AreParsedAlts : Alts → Type 0
  AreParsedAlts NoAlts = Unit {0}
  AreParsedAlts (MoreAlts p e alts) = IsUnnumbered p × (IsParsed e × AreParsedAlts alts)

  pub AreParsedStmts : Stmts → Type 0
  AreParsedStmts NoStmts = Unit {0}
  AreParsedStmts (TakeThen p e ss) = IsUnnumbered p × (IsParsed e × AreParsedStmts ss)
  AreParsedStmts (LetThen bs ss) = AreParsedBinds bs × AreParsedStmts ss
  AreParsedStmts (DoThen e ss) = IsParsed e × AreParsedStmts ss

  pub AreParsedBinds : Binds → Type 0
  AreParsedBinds NoBinds = Unit {0}
  AreParsedBinds (MoreBinds name place rows bs) = IsOneRow rows × AreParsedBinds bs

  -- one row, and no other
  pub IsOneRow : Equations → Type 0
  IsOneRow NoEquations = ⊥
  IsOneRow (MoreEquations ps first e bs NoEquations) = AllUnnumbered ps × (IsParsed e × AreParsedBinds bs)
  IsOneRow (MoreEquations ps first e bs (MoreEquations qs second f cs rows)) = ⊥

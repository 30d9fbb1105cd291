-- What a resolved program keeps.
use Rattle.std.specs.Prelude.{◌≡◌, Bool, true, false, ◌&&◌, [], ◌++◌, length, map, Some, All, IsTrue}
use Rattle.std.specs.List.{range_with_len}
use Rattle.hb_base.specs.declared.name.Name.{Name}
use Rattle.hb_tree.specs.Expressions.{Expr, AnExpr, ExprKind, Var, Con, Number, Bits, Unit, Apply, Run, Lambda, Let, If, Case, Do, Select, Build, Update, Pair, FieldExprs, NoFieldExprs, MoreFieldExprs, Alts, NoAlts, MoreAlts, Stmts, NoStmts, TakeThen, LetThen, DoThen, Binds, NoBinds, MoreBinds, Equations, NoEquations, MoreEquations}
use Rattle.hb_tree.specs.ExpressionViews.{binds, equations}
use Rattle.hb_tree.specs.Initials.{InitExpr, Each, Fields, Cell, FieldInits, NoFieldInits, MoreFieldInits}
use Rattle.hb_tree.specs.declared.declaration.Decl.{Decl}
use Rattle.hb_tree.specs.declared.declaration.Decl.TheVariants as decl
use Rattle.hb_resolved.specs.declared.resolved.Target.TheVariants as target
use Rattle.hb_resolved.specs.declared.resolved.Use.{Use}
use Rattle.hb_resolved.specs.declared.resolved.Resolved.{Resolved}
use Rattle.hb_resolved.specs.Nodes.{decls_nodes}
use Rattle.hb_resolved.specs.Scopes.{Scope}
use Rattle.hb_resolved.specs.Uses.{decls_uses}
use Rattle.hb_resolved.specs.Things.{IsTop, con_names, defined, signed, missing, repeated}

-- neither a run nor a pair is left
abbrev mutual
  pub is_settled : Expr → Bool
  is_settled (AnExpr n at k) = is_settled_kind k

  pub is_settled_kind : ExprKind → Bool
  is_settled_kind (Var x) = true
  is_settled_kind (Con c) = true
  is_settled_kind (Number n) = true
  is_settled_kind (Bits w n) = true
  is_settled_kind Unit = true
  is_settled_kind (Apply f x) = is_settled f && is_settled x
  is_settled_kind (Run es os) = false
  is_settled_kind (Lambda ps e) = is_settled e
  is_settled_kind (Let bs e) = are_settled bs && is_settled e
  is_settled_kind (If c t e) = is_settled c && (is_settled t && is_settled e)
  is_settled_kind (Case e all) = is_settled e && are_alts_settled all
  is_settled_kind (Do ss) = are_stmts_settled ss
  is_settled_kind (Select e f) = is_settled e
  is_settled_kind (Build c fs) = are_fields_settled fs
  is_settled_kind (Update e fs) = is_settled e && are_fields_settled fs
  is_settled_kind (Pair a b) = false

  pub are_fields_settled : FieldExprs → Bool
  are_fields_settled NoFieldExprs = true
  are_fields_settled (MoreFieldExprs at x e fs) = is_settled e && are_fields_settled fs

  pub are_alts_settled : Alts → Bool
  are_alts_settled NoAlts = true
  are_alts_settled (MoreAlts p e all) = is_settled e && are_alts_settled all

  pub are_stmts_settled : Stmts → Bool
  are_stmts_settled NoStmts = true
  are_stmts_settled (TakeThen p e ss) = is_settled e && are_stmts_settled ss
  are_stmts_settled (LetThen bs ss) = are_settled bs && are_stmts_settled ss
  are_stmts_settled (DoThen e ss) = is_settled e && are_stmts_settled ss

  pub are_settled : Binds → Bool
  are_settled NoBinds = true
  are_settled (MoreBinds x at rows bs) = are_rows_settled rows && are_settled bs

  pub are_rows_settled : Equations → Bool
  are_rows_settled NoEquations = true
  are_rows_settled (MoreEquations ps first e bs rows) = is_settled e && (are_settled bs && are_rows_settled rows)

abbrev mutual
  pub is_init_settled : InitExpr → Bool
  is_init_settled (Each place name i) = is_init_settled i
  is_init_settled (Fields place fs) = are_inits_settled fs
  is_init_settled (Cell place e) = is_settled e

  pub are_inits_settled : FieldInits → Bool
  are_inits_settled NoFieldInits = true
  are_inits_settled (MoreFieldInits name i fs) = is_init_settled i && are_inits_settled fs

abbrev pub is_decl_settled : Decl → Bool
is_decl_settled (decl.Equation b) = are_rows_settled (equations b.rows)
is_decl_settled (decl.Area at name (Some i) of align) = is_init_settled i
is_decl_settled (decl.Instance at name types context bs) = are_settled (binds bs)
is_decl_settled d = true

-- a name that is used means something
abbrev pub IsKnown : Use → Type 0
IsKnown u = (name : Name) → u.name ≡ Some name → u.target ≡ target.None → ⊥

pub record IsResolved (r : Resolved) : Type 0 where
  -- each node number stands once, in node order, and has its target
  pub numbered : decls_nodes r.program.decls ≡ range_with_len 0 (length r.targets)
  pub settled : All (λ d. IsTrue (is_decl_settled d)) r.program.decls
  -- the targets are those of the uses, over the scope at the top
  pub scope : Scope
  pub top : IsTop (length r.names) r.program.decls scope
  pub targets : r.targets ≡ map (λ u. u.target) (decls_uses (length r.targets) scope r.program.decls)
  pub known : All IsKnown (decls_uses (length r.targets) scope r.program.decls)
  -- no constructor, definition or signature comes twice, and definitions and signatures belong together
  pub one_each : repeated [] (con_names r.program.decls) ++ repeated [] (defined r.program.decls) ++ repeated [] (signed r.program.decls) ≡ []
  pub all_signed : missing (signed r.program.decls) (defined r.program.decls) ≡ []
  pub all_defined : missing (defined r.program.decls) (signed r.program.decls) ≡ []

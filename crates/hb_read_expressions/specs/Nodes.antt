-- The nodes of an expression in their order: parts before the whole. Each function puts the nodes of its tree after those
-- that are out. The tree's own numbers of nodes are not among them.
use Rattle.std.specs.Prelude.{ℕ, ◌+◌, List, [], ◌∷◌, ◌++◌}
use Rattle.hb_base.specs.declared.place.Place.{Place}
use Rattle.hb_base.specs.declared.name.Name.{Name}
use Rattle.hb_tree.specs.Patterns.{Pat}
use Rattle.hb_tree.specs.Expressions.{Expr, AnExpr, ExprKind, Exprs, NoExprs, MoreExprs, FieldExprs, NoFieldExprs, MoreFieldExprs, Alts, NoAlts, MoreAlts, Stmts, NoStmts, TakeThen, LetThen, DoThen, Binds, NoBinds, MoreBinds, Equations, NoEquations, MoreEquations}
use Rattle.hb_tree.specs.Expressions as tree
use Rattle.hb_read_patterns.specs.declared.node.PatNode.{PatNode}
use Rattle.hb_read_patterns.specs.Nodes.{pat_nodes}
use Rattle.hb_read_expressions.specs.declared.node.ExprNode.{ExprNode}
use Rattle.hb_read_expressions.specs.declared.node.ExprNode.TheVariants as node

-- one node more
abbrev pub put : List ExprNode → ExprNode → List ExprNode
put out n = out ++ n ∷ []

-- nodes of patterns, as nodes of an expression
abbrev pub wrapped : List PatNode → List ExprNode
wrapped [] = []
wrapped (n ∷ ns) = node.Pat n ∷ wrapped ns

abbrev pub put_pat : Pat → List ExprNode → List ExprNode
put_pat p out = out ++ wrapped (pat_nodes p)

abbrev pub put_pats : List Pat → List ExprNode → List ExprNode
put_pats [] out = out
put_pats (p ∷ ps) out = put_pats ps (put_pat p out)

-- so many, and those of the list
abbrev pub pats_from : ℕ → List Pat → ℕ
pats_from n [] = n
pats_from n (p ∷ ps) = pats_from (n + 1) ps

abbrev pub exprs_from : ℕ → Exprs → ℕ
exprs_from n NoExprs = n
exprs_from n (MoreExprs e es) = exprs_from (n + 1) es

abbrev pub fields_from : ℕ → FieldExprs → ℕ
fields_from n NoFieldExprs = n
fields_from n (MoreFieldExprs place name e fs) = fields_from (n + 1) fs

abbrev pub alts_from : ℕ → Alts → ℕ
alts_from n NoAlts = n
alts_from n (MoreAlts p e alts) = alts_from (n + 1) alts

abbrev pub stmts_from : ℕ → Stmts → ℕ
stmts_from n NoStmts = n
stmts_from n (TakeThen p e ss) = stmts_from (n + 1) ss
stmts_from n (LetThen bs ss) = stmts_from (n + 1) ss
stmts_from n (DoThen e ss) = stmts_from (n + 1) ss

abbrev pub rows_from : ℕ → Equations → ℕ
rows_from n NoEquations = n
rows_from n (MoreEquations ps first e bs rows) = rows_from (n + 1) rows

-- the rows of all the definitions together
abbrev pub binds_from : ℕ → Binds → ℕ
binds_from n NoBinds = n
binds_from n (MoreBinds name place rows bs) = binds_from (rows_from n rows) bs

abbrev mutual
  pub put_expr : Expr → List ExprNode → List ExprNode
  put_expr (AnExpr number place kind) out = put_kind place kind out

  pub put_kind : Place → ExprKind → List ExprNode → List ExprNode
  put_kind place (tree.Var n) out = put out (node.Var place n)
  put_kind place (tree.Con n) out = put out (node.Con place n)
  put_kind place (tree.Number k) out = put out (node.Number place k)
  put_kind place (tree.Bits width k) out = put out (node.Bits place width k)
  put_kind place tree.Unit out = put out (node.Unit place)
  put_kind place (tree.Apply f x) out = put (put_expr x (put_expr f out)) (node.Apply place)
  put_kind place (tree.Run es os) out = put (put_run es (puts os) out) (node.Run place (exprs_from 0 os))
  put_kind place (tree.Lambda ps e) out = put (put_expr e (put_pats ps out)) (node.Lambda place (pats_from 0 ps))
  put_kind place (tree.Let bs e) out = put (put_expr e (put_binds bs out)) (node.Let place (binds_from 0 bs))
  put_kind place (tree.If c a b) out = put (put_expr b (put_expr a (put_expr c out))) (node.If place)
  put_kind place (tree.Case e alts) out = put (put_alts alts (put_expr e out)) (node.Case place (alts_from 0 alts))
  put_kind place (tree.Do ss) out = put (put_stmts ss out) (node.Do place (stmts_from 0 ss))
  put_kind place (tree.Select e n) out = put (put_expr e out) (node.Select place n)
  put_kind place (tree.Build c fs) out = put (put_fields fs out) (node.Build place c (fields_from 0 fs))
  put_kind place (tree.Update e fs) out = put (put_fields fs (put_expr e out)) (node.Update place (fields_from 0 fs))
  put_kind place (tree.Pair a b) out = put (put_expr b (put_expr a out)) (node.Pair place)

  -- operands, with what puts each operator between them
  pub put_run : Exprs → List (List ExprNode → List ExprNode) → List ExprNode → List ExprNode
  put_run NoExprs os out = out
  put_run (MoreExprs e es) [] out = put_run es [] (put_expr e out)
  put_run (MoreExprs e es) (o ∷ os) out = put_run es os (o (put_expr e out))

  pub puts : Exprs → List (List ExprNode → List ExprNode)
  puts NoExprs = []
  puts (MoreExprs o os) = put_expr o ∷ puts os

  -- each field comes after its value
  pub put_fields : FieldExprs → List ExprNode → List ExprNode
  put_fields NoFieldExprs out = out
  put_fields (MoreFieldExprs place name e fs) out = put_fields fs (put (put_expr e out) (node.Field place name))

  pub put_alts : Alts → List ExprNode → List ExprNode
  put_alts NoAlts out = out
  put_alts (MoreAlts p e alts) out = put_alts alts (put (put_expr e (put_pat p out)) node.Alternative)

  pub put_stmts : Stmts → List ExprNode → List ExprNode
  put_stmts NoStmts out = out
  put_stmts (TakeThen p e ss) out = put_stmts ss (put (put_expr e (put_pat p out)) node.TakeStmt)
  put_stmts (LetThen bs ss) out = put_stmts ss (put (put_binds bs out) (node.LetStmt (binds_from 0 bs)))
  put_stmts (DoThen e ss) out = put_stmts ss (put (put_expr e out) node.DoStmt)

  pub put_binds : Binds → List ExprNode → List ExprNode
  put_binds NoBinds out = out
  put_binds (MoreBinds name place rows bs) out = put_binds bs (put_rows name place rows out)

  -- the rows of one definition, each after its patterns, its body and its local rows
  pub put_rows : Name → Place → Equations → List ExprNode → List ExprNode
  put_rows name place NoEquations out = out
  put_rows name place (MoreEquations ps first e bs rows) out =
      put_rows name place rows (put (put_binds bs (put_expr e (put_pats ps out))) (node.Row name place (pats_from 0 ps) first (binds_from 0 bs)))

-- the nodes of an expression alone
abbrev pub expr_nodes : Expr → List ExprNode
expr_nodes e = put_expr e []

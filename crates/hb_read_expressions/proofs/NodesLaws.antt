-- The nodes of a tree are put after those that are out, and do not depend on them.
use Rattle.std.proofs.Common.{◌≡◌, ℕ, ◌+◌, List, [], ◌∷◌, ◌++◌, length, refl, sym, ap, ◌∙◌, arith, append_assoc, append-nil}
use Rattle.hb_base.specs.declared.name.Name.{Name}
use Rattle.hb_base.specs.declared.place.Place.{Place}
use Rattle.hb_tree.specs.Patterns.{Pat}
use Rattle.hb_tree.specs.Expressions.{Expr, AnExpr, ExprKind, Exprs, NoExprs, MoreExprs, FieldExprs, NoFieldExprs, MoreFieldExprs, Alts, NoAlts, MoreAlts, Stmts, NoStmts, TakeThen, LetThen, DoThen, Binds, NoBinds, MoreBinds, Equations, NoEquations, MoreEquations}
use Rattle.hb_tree.specs.Expressions as tree
use Rattle.hb_read_expressions.specs.declared.node.ExprNode.{ExprNode}
use Rattle.hb_read_expressions.specs.declared.node.ExprNode.TheVariants as node
use Rattle.hb_read_expressions.specs.Nodes.{put, put_pat, put_pats, pats_from, exprs_from, fields_from, alts_from, stmts_from, binds_from, put_expr, put_kind, put_run, puts, put_fields, put_alts, put_stmts, put_binds, put_rows}

-- what it puts out comes after what is out, and does not depend on it
abbrev pub Adds : (List ExprNode → List ExprNode) → Type 0
Adds f = (out : List ExprNode) → f out ≡ out ++ f []

then : (f g : List ExprNode → List ExprNode) → Adds f → Adds g → Adds (λ out. g (f out))
then f g a b out = b (f out) ∙ ap (λ xs. xs ++ g []) (a out) ∙ append_assoc out (f []) (g []) ∙ ap (λ xs. out ++ xs) (sym (b (f [])))

then_put : (f : List ExprNode → List ExprNode) (n : ExprNode) → Adds f → Adds (λ out. put (f out) n)
then_put f n a = then f (λ out. put out n) a (λ out. refl)

nothing : Adds (λ out. out)
nothing out = sym (append-nil out)

pat_adds : (p : Pat) → Adds (put_pat p)
pat_adds p out = refl

pats_adds : (ps : List Pat) → Adds (put_pats ps)
pats_adds [] = nothing
pats_adds (p ∷ ps) = then (put_pat p) (put_pats ps) (pat_adds p) (pats_adds ps)

-- each of these
abbrev AllAdd : List (List ExprNode → List ExprNode) → Type 0
AllAdd [] = Unit {0}
AllAdd (o ∷ os) = Adds o × AllAdd os

mutual
  pub expr_adds : (e : Expr) → Adds (put_expr e)
  expr_adds (AnExpr number place kind) = kind_adds kind place

  kind_adds : (kind : ExprKind) (place : Place) → Adds (put_kind place kind)
  kind_adds (tree.Var n) place out = refl
  kind_adds (tree.Con n) place out = refl
  kind_adds (tree.Number k) place out = refl
  kind_adds (tree.Bits width k) place out = refl
  kind_adds tree.Unit place out = refl
  kind_adds (tree.Apply f x) place out = then_put (λ o. put_expr x (put_expr f o)) (node.Apply place) (then (put_expr f) (put_expr x) (expr_adds f) (expr_adds x)) out
  kind_adds (tree.Run es os) place out = then_put (put_run es (puts os)) (node.Run place (exprs_from 0 os)) (run_adds es (puts os) (all_add os)) out
  kind_adds (tree.Lambda ps e) place out = then_put (λ o. put_expr e (put_pats ps o)) (node.Lambda place (pats_from 0 ps)) (then (put_pats ps) (put_expr e) (pats_adds ps) (expr_adds e)) out
  kind_adds (tree.Let bs e) place out = then_put (λ o. put_expr e (put_binds bs o)) (node.Let place (binds_from 0 bs)) (then (put_binds bs) (put_expr e) (binds_add bs) (expr_adds e)) out
  kind_adds (tree.If c a b) place out =
      then_put (λ o. put_expr b (put_expr a (put_expr c o))) (node.If place) (then (λ o. put_expr a (put_expr c o)) (put_expr b) (then (put_expr c) (put_expr a) (expr_adds c) (expr_adds a)) (expr_adds b)) out
  kind_adds (tree.Case e all) place out = then_put (λ o. put_alts all (put_expr e o)) (node.Case place (alts_from 0 all)) (then (put_expr e) (put_alts all) (expr_adds e) (alts_add all)) out
  kind_adds (tree.Do ss) place out = then_put (put_stmts ss) (node.Do place (stmts_from 0 ss)) (stmts_add ss) out
  kind_adds (tree.Select e n) place out = then_put (put_expr e) (node.Select place n) (expr_adds e) out
  kind_adds (tree.Build c fs) place out = then_put (put_fields fs) (node.Build place c (fields_from 0 fs)) (fields_add fs) out
  kind_adds (tree.Update e fs) place out = then_put (λ o. put_fields fs (put_expr e o)) (node.Update place (fields_from 0 fs)) (then (put_expr e) (put_fields fs) (expr_adds e) (fields_add fs)) out
  kind_adds (tree.Pair a b) place out = then_put (λ o. put_expr b (put_expr a o)) (node.Pair place) (then (put_expr a) (put_expr b) (expr_adds a) (expr_adds b)) out

  run_adds : (es : Exprs) (os : List (List ExprNode → List ExprNode)) → AllAdd os → Adds (put_run es os)
  run_adds NoExprs os h out = nothing out
  run_adds (MoreExprs e es) [] h out = then (put_expr e) (put_run es []) (expr_adds e) (run_adds es [] h) out
  run_adds (MoreExprs e es) (o ∷ os) h out = then (λ x. o (put_expr e x)) (put_run es os) (then (put_expr e) o (expr_adds e) h.0) (run_adds es os h.1) out

  all_add : (os : Exprs) → AllAdd (puts os)
  all_add NoExprs = tt
  all_add (MoreExprs o os) = (expr_adds o, all_add os)

  fields_add : (fs : FieldExprs) → Adds (put_fields fs)
  fields_add NoFieldExprs out = nothing out
  fields_add (MoreFieldExprs place name e fs) out = then (λ o. put (put_expr e o) (node.Field place name)) (put_fields fs) (then_put (put_expr e) (node.Field place name) (expr_adds e)) (fields_add fs) out

  alts_add : (all : Alts) → Adds (put_alts all)
  alts_add NoAlts out = nothing out
  alts_add (MoreAlts p e all) out =
      then (λ o. put (put_expr e (put_pat p o)) node.Alternative) (put_alts all) (then_put (λ o. put_expr e (put_pat p o)) node.Alternative (then (put_pat p) (put_expr e) (pat_adds p) (expr_adds e))) (alts_add all) out

  stmts_add : (ss : Stmts) → Adds (put_stmts ss)
  stmts_add NoStmts out = nothing out
  stmts_add (TakeThen p e ss) out =
      then (λ o. put (put_expr e (put_pat p o)) node.TakeStmt) (put_stmts ss) (then_put (λ o. put_expr e (put_pat p o)) node.TakeStmt (then (put_pat p) (put_expr e) (pat_adds p) (expr_adds e))) (stmts_add ss) out
  stmts_add (LetThen bs ss) out = then (λ o. put (put_binds bs o) (node.LetStmt (binds_from 0 bs))) (put_stmts ss) (then_put (put_binds bs) (node.LetStmt (binds_from 0 bs)) (binds_add bs)) (stmts_add ss) out
  stmts_add (DoThen e ss) out = then (λ o. put (put_expr e o) node.DoStmt) (put_stmts ss) (then_put (put_expr e) node.DoStmt (expr_adds e)) (stmts_add ss) out

  pub binds_add : (bs : Binds) → Adds (put_binds bs)
  binds_add NoBinds out = nothing out
  binds_add (MoreBinds name place rows bs) out = then (put_rows name place rows) (put_binds bs) (rows_add rows name place) (binds_add bs) out

  pub rows_add : (rows : Equations) (name : Name) (place : Place) → Adds (put_rows name place rows)
  rows_add NoEquations name place out = nothing out
  rows_add (MoreEquations ps first e bs rows) name place out =
      then (λ o. put (put_binds bs (put_expr e (put_pats ps o))) (node.Row name place (pats_from 0 ps) first (binds_from 0 bs))) (put_rows name place rows)
      (then_put (λ o. put_binds bs (put_expr e (put_pats ps o))) (node.Row name place (pats_from 0 ps) first (binds_from 0 bs))
      (then (λ o. put_expr e (put_pats ps o)) (put_binds bs) (then (put_pats ps) (put_expr e) (pats_adds ps) (expr_adds e)) (binds_add bs)))
      (rows_add rows name place) out

-- the count of patterns is their length
pub pats_count : (n : ℕ) (ps : List Pat) → pats_from n ps ≡ n + length ps
pats_count n [] = omega arith
pats_count n (p ∷ ps) = pats_count (n + 1) ps ∙ (omega arith)

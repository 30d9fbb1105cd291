-- The nodes of an expression, and of the rows of a definition, are those of its form.
use Rattle.std.proofs.Common.{◌≡◌, ℕ, ◌+◌, refl, ap, sym, ◌∙◌, List, [], ◌∷◌, ◌++◌, Option, Some, None, arith}
use Rattle.hb_base.specs.declared.place.Place.{Place}
use Rattle.hb_base.specs.declared.name.Name.{Name}
use Rattle.hb_tree.specs.Patterns.{Pat}
use Rattle.hb_tree.specs.Expressions.{Expr, AnExpr, ExprKind, Exprs, NoExprs, MoreExprs, FieldExprs, NoFieldExprs, MoreFieldExprs, Alts, NoAlts, MoreAlts, Stmts, NoStmts, TakeThen, LetThen, DoThen, Binds, NoBinds, MoreBinds, Equations, NoEquations, MoreEquations}
use Rattle.hb_tree.specs.Expressions as tree
use Rattle.hb_read_patterns.specs.Nodes.{pat_nodes}
use Rattle.hb_read_expressions.specs.declared.node.ExprNode.{ExprNode}
use Rattle.hb_read_expressions.specs.declared.node.ExprNode.TheVariants as node
use Rattle.hb_read_expressions.specs.Nodes.{wrapped, put, put_pat, put_pats, pats_from, exprs_from, fields_from, alts_from, stmts_from, rows_from, binds_from, put_expr, put_kind, put_run, puts, put_fields, put_alts, put_stmts, put_binds, put_rows}
use Rattle.hb_read_declarations.specs.Nodes.{valued}
use Rattle.hb_depth.specs.declared.shape.Shape.{Shape}
use Rattle.hb_depth.specs.declared.shape.Kind.TheVariants.{Levels}
use Rattle.hb_depth.specs.Shapes.{shapes, shape, plain, hidden, expr_shape}
use Rattle.hb_depth.specs.Forms.{Form, Whole, Forms, NoForms, MoreForms, one, two, three, and, forms, pat_form, expr_form, expr_kind_form, exprs_forms, run_forms, fields_forms, alts_forms, stmts_forms, binds_forms, rows_forms}
use Rattle.hb_depth.specs.Written.{IsNone, IsOneMore, IsWritten, IsWrittenKind, AreWritten, AreWrittenFields, AreWrittenAlts, AreWrittenStmts, AreWrittenBinds, AreWrittenRows}
use Rattle.hb_depth.proofs.Posts.{count, post, all_post}
use Rattle.hb_depth.proofs.FormLaws.{and_post, and_count}
use Rattle.hb_depth.proofs.PatPosts.{pat_post}

-- it puts the nodes of the form, and of the forms, after those that are out
abbrev pub Puts : (List ExprNode → List ExprNode) → Form → Type 0
Puts p f = (out : List ExprNode) (rest : List Shape) → shapes (valued (p out)) rest ≡ shapes (valued out) (post f rest)

abbrev pub PutsAll : (List ExprNode → List ExprNode) → Forms → Type 0
PutsAll p fs = (out : List ExprNode) (rest : List Shape) → shapes (valued (p out)) rest ≡ shapes (valued out) (all_post fs rest)

valued_append : (xs ys : List ExprNode) (rest : List Shape) → shapes (valued (xs ++ ys)) rest ≡ shapes (valued xs) (shapes (valued ys) rest)
valued_append [] ys rest = refl
valued_append (n ∷ xs) ys rest = ap (λ r. expr_shape n ∷ r) (valued_append xs ys rest)

both : (p q : List ExprNode → List ExprNode) (fs gs : Forms) → PutsAll p fs → PutsAll q gs → PutsAll (λ out. q (p out)) (and fs gs)
both p q fs gs a b out rest = b (p out) rest ∙ a out (all_post gs rest) ∙ ap (λ r. shapes (valued out) r) (sym (and_post fs gs rest))

-- a node behind those of its parts
closed : (p : List ExprNode → List ExprNode) (fs : Forms) (k : ℕ) (place : Option Place) (n : ExprNode) → PutsAll p fs → expr_shape n ≡ shape (Levels k) place (count fs) → Puts (λ out. put (p out) n) (Whole k place fs)
closed p fs k place n a e out rest = valued_append (p out) (n ∷ []) rest ∙ a out (expr_shape n ∷ rest) ∙ ap (λ s. shapes (valued out) (all_post fs (s ∷ rest))) e

pat_put : (p : Pat) → Puts (put_pat p) (pat_form p)
pat_put p out rest = valued_append out (wrapped (pat_nodes p)) rest ∙ ap (λ r. shapes (valued out) r) (pat_post p rest)

pats_put : (ps : List Pat) → PutsAll (put_pats ps) (forms pat_form ps)
pats_put [] out rest = refl
pats_put (p ∷ ps) out rest = pats_put ps (put_pat p out) rest ∙ pat_put p out (all_post (forms pat_form ps) rest)

-- Counts.

pats_counted : (n : ℕ) (ps : List Pat) → pats_from n ps ≡ n + count (forms pat_form ps)
pats_counted n [] = omega arith
pats_counted n (p ∷ ps) = omega (arith, pats_counted (n + 1) ps)

exprs_counted : (n : ℕ) (es : Exprs) → exprs_from n es ≡ n + count (exprs_forms es)
exprs_counted n NoExprs = omega arith
exprs_counted n (MoreExprs e es) = omega (arith, exprs_counted (n + 1) es)

fields_counted : (n : ℕ) (fs : FieldExprs) → fields_from n fs ≡ n + count (fields_forms fs)
fields_counted n NoFieldExprs = omega arith
fields_counted n (MoreFieldExprs place name e fs) = omega (arith, fields_counted (n + 1) fs)

alts_counted : (n : ℕ) (alts : Alts) → alts_from n alts ≡ n + count (alts_forms alts)
alts_counted n NoAlts = omega arith
alts_counted n (MoreAlts p e alts) = omega (arith, alts_counted (n + 1) alts)

stmts_counted : (n : ℕ) (ss : Stmts) → stmts_from n ss ≡ n + count (stmts_forms ss)
stmts_counted n NoStmts = omega arith
stmts_counted n (TakeThen p e ss) = omega (arith, stmts_counted (n + 1) ss)
stmts_counted n (LetThen bs ss) = omega (arith, stmts_counted (n + 1) ss)
stmts_counted n (DoThen e ss) = omega (arith, stmts_counted (n + 1) ss)

rows_counted : (n : ℕ) (place : Place) (rows : Equations) → rows_from n rows ≡ n + count (rows_forms place rows)
rows_counted n place NoEquations = omega arith
rows_counted n place (MoreEquations ps first e bs rows) = omega (arith, rows_counted (n + 1) place rows)

binds_counted : (n : ℕ) (bs : Binds) → binds_from n bs ≡ n + count (binds_forms bs)
binds_counted n NoBinds = omega arith
binds_counted n (MoreBinds name place rows bs) = omega (arith, binds_counted (rows_from n rows) bs, rows_counted n place rows, and_count (rows_forms place rows) (binds_forms bs))

lambda_count : (ps : List Pat) (e : Expr) → pats_from 0 ps + 1 ≡ count (and (forms pat_form ps) (one (expr_form e)))
lambda_count ps e = omega (arith, pats_counted 0 ps, and_count (forms pat_form ps) (one (expr_form e)))

let_count : (bs : Binds) (e : Expr) → binds_from 0 bs + 1 ≡ count (and (binds_forms bs) (one (expr_form e)))
let_count bs e = omega (arith, binds_counted 0 bs, and_count (binds_forms bs) (one (expr_form e)))

row_count : (ps : List Pat) (e : Expr) (bs : Binds) → pats_from 0 ps + 1 + binds_from 0 bs ≡ count (and (forms pat_form ps) (MoreForms (expr_form e) (binds_forms bs)))
row_count ps e bs = omega (arith, pats_counted 0 ps, binds_counted 0 bs, and_count (forms pat_form ps) (MoreForms (expr_form e) (binds_forms bs)))

case_count : (alts : Alts) → alts_from 0 alts + 1 ≡ count (alts_forms alts) + 1
case_count alts = omega (arith, alts_counted 0 alts)

update_count : (fs : FieldExprs) → fields_from 0 fs + 1 ≡ count (fields_forms fs) + 1
update_count fs = omega (arith, fields_counted 0 fs)

binds_all : (bs : Binds) → binds_from 0 bs ≡ count (binds_forms bs)
binds_all bs = omega (arith, binds_counted 0 bs)

stmts_all : (ss : Stmts) → stmts_from 0 ss ≡ count (stmts_forms ss)
stmts_all ss = omega (arith, stmts_counted 0 ss)

fields_all : (fs : FieldExprs) → fields_from 0 fs ≡ count (fields_forms fs)
fields_all fs = omega (arith, fields_counted 0 fs)

alone_count : (es : Exprs) → IsNone es → count (run_forms es NoForms) ≡ 0
alone_count NoExprs h = refl
alone_count (MoreExprs e es) h = absurd h

run_count : (es os : Exprs) → IsOneMore es os → count (run_forms es (exprs_forms os)) ≡ count (exprs_forms os) + count (exprs_forms os) + 1
run_count NoExprs os h = absurd h
run_count (MoreExprs e es) NoExprs h = omega (arith, alone_count es h)
run_count (MoreExprs e es) (MoreExprs o os) h = omega (arith, run_count es os h)

run_counted : (es os : Exprs) → IsOneMore es os → exprs_from 0 os + exprs_from 0 os + 1 ≡ count (run_forms es (exprs_forms os))
run_counted es os h = omega (arith, run_count es os h, exprs_counted 0 os)

-- each of these puts the nodes of the form in its place
abbrev PutEach : List (List ExprNode → List ExprNode) → Forms → Type 0
PutEach [] NoForms = Unit {0}
PutEach [] (MoreForms f fs) = ⊥
PutEach (o ∷ os) NoForms = ⊥
PutEach (o ∷ os) (MoreForms f fs) = Puts o f × PutEach os fs

mutual
  pub expr_put : (e : Expr) → IsWritten e → Puts (put_expr e) (expr_form e)
  expr_put (AnExpr number place kind) w = kind_put kind place w

  kind_put : (kind : ExprKind) (place : Place) → IsWrittenKind kind → Puts (put_kind place kind) (expr_kind_form place kind)
  kind_put (tree.Var n) place w = closed (λ out. out) NoForms 1 (Some place) (node.Var place n) (λ out rest. refl) refl
  kind_put (tree.Con n) place w = closed (λ out. out) NoForms 1 (Some place) (node.Con place n) (λ out rest. refl) refl
  kind_put (tree.Number k) place w = closed (λ out. out) NoForms 1 (Some place) (node.Number place k) (λ out rest. refl) refl
  kind_put (tree.Bits width k) place w = closed (λ out. out) NoForms 1 (Some place) (node.Bits place width k) (λ out rest. refl) refl
  kind_put tree.Unit place w = closed (λ out. out) NoForms 1 (Some place) (node.Unit place) (λ out rest. refl) refl
  kind_put (tree.Apply f x) place w = λ out rest.
      valued_append (put_expr x (put_expr f out)) (node.Apply place ∷ []) rest
      ∙ expr_put x w.1 (put_expr f out) (expr_shape (node.Apply place) ∷ rest)
      ∙ expr_put f w.0 out (post (expr_form x) (expr_shape (node.Apply place) ∷ rest))
  kind_put (tree.Run es os) place w =
      closed (put_run es (puts os)) (run_forms es (exprs_forms os)) (exprs_from 0 os) (Some place) (node.Run place (exprs_from 0 os)) (run_put es (puts os) (exprs_forms os) w.1 (all_put os w.2)) (ap (shape (Levels (exprs_from 0 os)) (Some place)) (run_counted es os w.0))
  kind_put (tree.Lambda ps e) place w =
      closed (λ out. put_expr e (put_pats ps out)) (and (forms pat_form ps) (one (expr_form e))) 1 (Some place) (node.Lambda place (pats_from 0 ps)) (both (put_pats ps) (put_expr e) (forms pat_form ps) (one (expr_form e)) (pats_put ps) (expr_put e w)) (ap (plain place) (lambda_count ps e))
  kind_put (tree.Let bs e) place w =
      closed (λ out. put_expr e (put_binds bs out)) (and (binds_forms bs) (one (expr_form e))) 1 (Some place) (node.Let place (binds_from 0 bs)) (both (put_binds bs) (put_expr e) (binds_forms bs) (one (expr_form e)) (binds_put bs w.0) (expr_put e w.1)) (ap (plain place) (let_count bs e))
  kind_put (tree.If c a b) place w =
      closed (λ out. put_expr b (put_expr a (put_expr c out))) (three (expr_form c) (expr_form a) (expr_form b)) 1 (Some place) (node.If place)
      (both (λ out. put_expr a (put_expr c out)) (put_expr b) (two (expr_form c) (expr_form a)) (one (expr_form b)) (both (put_expr c) (put_expr a) (one (expr_form c)) (one (expr_form a)) (expr_put c w.0) (expr_put a w.1)) (expr_put b w.2)) refl
  kind_put (tree.Case e alts) place w =
      closed (λ out. put_alts alts (put_expr e out)) (MoreForms (expr_form e) (alts_forms alts)) 1 (Some place) (node.Case place (alts_from 0 alts)) (both (put_expr e) (put_alts alts) (one (expr_form e)) (alts_forms alts) (expr_put e w.0) (alts_put alts w.1)) (ap (plain place) (case_count alts))
  kind_put (tree.Do ss) place w = closed (put_stmts ss) (stmts_forms ss) 1 (Some place) (node.Do place (stmts_from 0 ss)) (stmts_put ss w) (ap (plain place) (stmts_all ss))
  kind_put (tree.Select e n) place w = closed (put_expr e) (one (expr_form e)) 1 (Some place) (node.Select place n) (expr_put e w) refl
  kind_put (tree.Build c fs) place w = closed (put_fields fs) (fields_forms fs) 1 (Some place) (node.Build place c (fields_from 0 fs)) (fields_put fs w) (ap (plain place) (fields_all fs))
  kind_put (tree.Update e fs) place w =
      closed (λ out. put_fields fs (put_expr e out)) (MoreForms (expr_form e) (fields_forms fs)) 1 (Some place) (node.Update place (fields_from 0 fs)) (both (put_expr e) (put_fields fs) (one (expr_form e)) (fields_forms fs) (expr_put e w.0) (fields_put fs w.1)) (ap (plain place) (update_count fs))
  kind_put (tree.Pair a b) place w =
      closed (λ out. put_expr b (put_expr a out)) (two (expr_form a) (expr_form b)) 1 (Some place) (node.Pair place) (both (put_expr a) (put_expr b) (one (expr_form a)) (one (expr_form b)) (expr_put a w.0) (expr_put b w.1)) refl

  run_put : (es : Exprs) (os : List (List ExprNode → List ExprNode)) (fs : Forms) → AreWritten es → PutEach os fs → PutsAll (put_run es os) (run_forms es fs)
  run_put NoExprs os fs w h out rest = refl
  run_put (MoreExprs e es) [] NoForms w h out rest =
      run_put es [] NoForms w.1 h (put_expr e out) rest ∙ expr_put e w.0 out (all_post (run_forms es NoForms) rest)
  run_put (MoreExprs e es) [] (MoreForms f fs) w h out rest = absurd h
  run_put (MoreExprs e es) (o ∷ os) NoForms w h out rest = absurd h
  run_put (MoreExprs e es) (o ∷ os) (MoreForms f fs) w h out rest =
      run_put es os fs w.1 h.1 (o (put_expr e out)) rest
      ∙ h.0 (put_expr e out) (all_post (run_forms es fs) rest)
      ∙ expr_put e w.0 out (post f (all_post (run_forms es fs) rest))

  all_put : (os : Exprs) → AreWritten os → PutEach (puts os) (exprs_forms os)
  all_put NoExprs w = tt
  all_put (MoreExprs o os) w = (expr_put o w.0, all_put os w.1)

  fields_put : (fs : FieldExprs) → AreWrittenFields fs → PutsAll (put_fields fs) (fields_forms fs)
  fields_put NoFieldExprs w out rest = refl
  fields_put (MoreFieldExprs place name e fs) w out rest =
      fields_put fs w.1 (put (put_expr e out) (node.Field place name)) rest
      ∙ closed (put_expr e) (one (expr_form e)) 0 None (node.Field place name) (expr_put e w.0) refl out (all_post (fields_forms fs) rest)

  alts_put : (alts : Alts) → AreWrittenAlts alts → PutsAll (put_alts alts) (alts_forms alts)
  alts_put NoAlts w out rest = refl
  alts_put (MoreAlts p e alts) w out rest =
      alts_put alts w.1 (put (put_expr e (put_pat p out)) node.Alternative) rest
      ∙ closed (λ o. put_expr e (put_pat p o)) (two (pat_form p) (expr_form e)) 0 None node.Alternative (both (put_pat p) (put_expr e) (one (pat_form p)) (one (expr_form e)) (pat_put p) (expr_put e w.0)) refl out (all_post (alts_forms alts) rest)

  stmts_put : (ss : Stmts) → AreWrittenStmts ss → PutsAll (put_stmts ss) (stmts_forms ss)
  stmts_put NoStmts w out rest = refl
  stmts_put (TakeThen p e ss) w out rest =
      stmts_put ss w.1 (put (put_expr e (put_pat p out)) node.TakeStmt) rest
      ∙ closed (λ o. put_expr e (put_pat p o)) (two (pat_form p) (expr_form e)) 0 None node.TakeStmt (both (put_pat p) (put_expr e) (one (pat_form p)) (one (expr_form e)) (pat_put p) (expr_put e w.0)) refl out (all_post (stmts_forms ss) rest)
  stmts_put (LetThen bs ss) w out rest =
      stmts_put ss w.1 (put (put_binds bs out) (node.LetStmt (binds_from 0 bs))) rest
      ∙ closed (put_binds bs) (binds_forms bs) 0 None (node.LetStmt (binds_from 0 bs)) (binds_put bs w.0) (ap hidden (binds_all bs)) out (all_post (stmts_forms ss) rest)
  stmts_put (DoThen e ss) w out rest =
      stmts_put ss w.1 (put (put_expr e out) node.DoStmt) rest
      ∙ closed (put_expr e) (one (expr_form e)) 0 None node.DoStmt (expr_put e w.0) refl out (all_post (stmts_forms ss) rest)

  binds_put : (bs : Binds) → AreWrittenBinds bs → PutsAll (put_binds bs) (binds_forms bs)
  binds_put NoBinds w out rest = refl
  binds_put (MoreBinds name place rows bs) w out rest =
      both (put_rows name place rows) (put_binds bs) (rows_forms place rows) (binds_forms bs) (rows_put rows name place w.0) (binds_put bs w.1) out rest

  pub rows_put : (rows : Equations) (name : Name) (place : Place) → AreWrittenRows rows → PutsAll (put_rows name place rows) (rows_forms place rows)
  rows_put NoEquations name place w out rest = refl
  rows_put (MoreEquations ps first e bs rows) name place w out rest =
      rows_put rows name place w.2 (put (put_binds bs (put_expr e (put_pats ps out))) (node.Row name place (pats_from 0 ps) first (binds_from 0 bs))) rest
      ∙ valued_append (put_binds bs (put_expr e (put_pats ps out))) (node.Row name place (pats_from 0 ps) first (binds_from 0 bs) ∷ []) (all_post (rows_forms place rows) rest)
      ∙ both (put_pats ps) (λ o. put_binds bs (put_expr e o)) (forms pat_form ps) (MoreForms (expr_form e) (binds_forms bs)) (pats_put ps) (both (put_expr e) (put_binds bs) (one (expr_form e)) (binds_forms bs) (expr_put e w.0) (binds_put bs w.1)) out (shape (Levels 1) (Some place) (pats_from 0 ps + 1 + binds_from 0 bs) ∷ all_post (rows_forms place rows) rest)
      ∙ ap (λ n. shapes (valued out) (all_post (and (forms pat_form ps) (MoreForms (expr_form e) (binds_forms bs))) (shape (Levels 1) (Some place) n ∷ all_post (rows_forms place rows) rest))) (row_count ps e bs)

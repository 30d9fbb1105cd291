-- The nodes of an expression put that expression on its stack, and likewise each other kind of part.
use Rattle.std.proofs.Common.{◌≡◌, ℕ, suc, ◌+◌, refl, ap, sym, ◌∙◌, List, [], ◌∷◌, ◌++◌, Option, Some, None, arith}
use Rattle.std.proofs.lemmas.List.{append-nil}
use mathlib.Core.List.{reverse_aux}
use Rattle.hb_base.specs.declared.place.Place.{Place}
use Rattle.hb_base.specs.declared.name.Name.{Name}
use Rattle.hb_tree.specs.declared.expression.FieldExpr.{FieldExpr}
use Rattle.hb_tree.specs.declared.statement.Alt.{Alt}
use Rattle.hb_tree.specs.declared.statement.Bind.{Bind}
use Rattle.hb_tree.specs.declared.statement.Stmt.{Stmt}
use Rattle.hb_tree.specs.declared.statement.Stmt.TheVariants.{Take, Let, Do}
use Rattle.hb_tree.specs.Patterns.{Pat}
use Rattle.hb_tree.specs.PatternViews.{pats}
use Rattle.hb_tree.specs.Expressions.{Expr, AnExpr, ExprKind, Exprs, NoExprs, MoreExprs, FieldExprs, NoFieldExprs, MoreFieldExprs, Alts, NoAlts, MoreAlts, Stmts, NoStmts, TakeThen, LetThen, DoThen, Binds, NoBinds, MoreBinds, Equations, NoEquations, MoreEquations}
use Rattle.hb_tree.specs.Expressions as tree
use Rattle.hb_tree.specs.Lists.{expr_list, field_expr_list, alt_list, bind_list, stmt_list}
use Rattle.hb_tree.proofs.ListLaws.{list-pats, exprs-list, field_exprs-list, alts-list, binds-list, stmts-list}
use Rattle.hb_read_patterns.specs.declared.node.PatNode.{PatNode}
use Rattle.hb_read_patterns.specs.Nodes.{pat_nodes, pats_count}
use Rattle.hb_read_expressions.specs.declared.node.ExprNode.{ExprNode}
use Rattle.hb_read_expressions.specs.declared.node.ExprNode.TheVariants as node
use Rattle.hb_read_expressions.specs.Nodes.{wrapped, put_pat, put_pats, pats_from, exprs_from, fields_from, alts_from, stmts_from, binds_from, put_expr, put_kind, put_run, puts, put_fields, put_alts, put_stmts, put_binds, put_rows}
use Rattle.hb_build.specs.declared.pattern_builder.Part.{Part}
use Rattle.hb_build.specs.declared.pattern_builder.Part.TheVariants.{Pat as APart}
use Rattle.hb_build.specs.Building.{after, built}
use Rattle.hb_build.specs.PatternSteps.{pats_off, stepped as pat_stepped}
use Rattle.hb_build.specs.Unnumbered.{IsUnnumbered}
use Rattle.hb_build.proofs.BuildingLaws.{built_append, then, refused as refused_by}
use Rattle.hb_build.proofs.PatternsFound.{pushed, pats_all_off, pat_found}
use Rattle.hb_build_expressions.specs.declared.builder.ExprBuilder.{ExprBuilder}
use Rattle.hb_build_expressions.specs.Taking.{off, run_off}
use Rattle.hb_build_expressions.specs.Parsed.{AllUnnumbered, IsOperator, IsParsed, IsParsedKind, IsRun, AreParsedFields, AreParsedAlts, AreParsedStmts, AreParsedBinds, IsOneRow}
use Rattle.hb_build_expressions.specs.ExpressionSteps.{state, with_exprs, in_patterns, of_run, of_lambda, of_let, of_case, of_do, of_build, of_update, of_let_stmt, of_row, stepped}
use Rattle.hb_build_expressions.proofs.TakingLaws.{from, all_off}

-- these nodes lead from one state to another
abbrev pub Leads : ExprBuilder → List ExprNode → ExprBuilder → Type 0
Leads s0 out s = built stepped (Some s0) out ≡ Some s

abbrev with_parts : ExprBuilder → List Part → ExprBuilder
with_parts s parts = state parts s.exprs s.fields s.alts s.stmts s.binds

-- the last parts of each kind are these
abbrev with_fields : ExprBuilder → FieldExprs → ExprBuilder
with_fields s fs = state s.pats.parts s.exprs (reverse_aux (field_expr_list fs) s.fields) s.alts s.stmts s.binds

abbrev with_alts : ExprBuilder → Alts → ExprBuilder
with_alts s all = state s.pats.parts s.exprs s.fields (reverse_aux (alt_list all) s.alts) s.stmts s.binds

abbrev with_stmts : ExprBuilder → Stmts → ExprBuilder
with_stmts s ss = state s.pats.parts s.exprs s.fields s.alts (reverse_aux (stmt_list ss) s.stmts) s.binds

abbrev pub with_binds : ExprBuilder → Binds → ExprBuilder
with_binds s bs = state s.pats.parts s.exprs s.fields s.alts s.stmts (reverse_aux (bind_list bs) s.binds)

-- a node that is not taken is the end
pub refused : (s : ExprBuilder) (n : ExprNode) (nodes : List ExprNode) → stepped s n ≡ None → built stepped (Some s) (n ∷ nodes) ≡ None
refused s n nodes e = refused_by stepped s n nodes e

-- Below, nodes of patterns among those of an expression.

again : (s : ExprBuilder) (parts : List Part) (next : Option (List Part)) → in_patterns (with_parts s parts) next ≡ in_patterns s next
again s parts None = refl
again s parts (Some rest) = refl

one_wrapped : (s : ExprBuilder) (parts : Option (List Part)) (n : PatNode) → after stepped (in_patterns s parts) (node.Pat n) ≡ in_patterns s (after pat_stepped parts n)
one_wrapped s None n = refl
one_wrapped s (Some parts) n = again s parts (pat_stepped parts n)

all_wrapped : (s : ExprBuilder) (parts : Option (List Part)) (ns : List PatNode) → built stepped (in_patterns s parts) (wrapped ns) ≡ in_patterns s (built pat_stepped parts ns)
all_wrapped s parts [] = refl
all_wrapped s parts (n ∷ ns) = ap (λ next. built stepped next (wrapped ns)) (one_wrapped s parts n) ∙ all_wrapped s (after pat_stepped parts n) ns

put_pat_found : (s0 : ExprBuilder) (out : List ExprNode) (s : ExprBuilder) (p : Pat) → IsUnnumbered p → Leads s0 out s → Leads s0 (put_pat p out) (with_parts s (APart p ∷ s.pats.parts))
put_pat_found s0 out s p u h =
    built_append stepped (Some s0) out (wrapped (pat_nodes p))
    ∙ ap (λ next. built stepped next (wrapped (pat_nodes p))) h
    ∙ all_wrapped s (Some s.pats.parts) (pat_nodes p)
    ∙ ap (in_patterns s) (pat_found s.pats.parts p u)

put_pats_found : (s0 : ExprBuilder) (out : List ExprNode) (s : ExprBuilder) (ps : List Pat) → AllUnnumbered ps → Leads s0 out s → Leads s0 (put_pats ps out) (with_parts s (pushed (pats ps) s.pats.parts))
put_pats_found s0 out s [] u h = h
put_pats_found s0 out s (p ∷ ps) u h = put_pats_found s0 (put_pat p out) (with_parts s (APart p ∷ s.pats.parts)) ps u.1 (put_pat_found s0 out s p u.0 h)

-- Below, so many parts come off again as were put.

count_moved : (n m : ℕ) → (n + 1) + m ≡ n + (m + 1)
count_moved n m = omega arith

counted_pats : (n : ℕ) (ps : List Pat) → pats_from n ps ≡ n + pats_count (pats ps)
counted_pats n [] = omega arith
counted_pats n (p ∷ ps) = counted_pats (n + 1) ps ∙ count_moved n (pats_count (pats ps))

from_zero : (n : ℕ) → 0 + n ≡ n
from_zero n = omega arith

pats_back : (ps : List Pat) (parts : List Part) → pats_off (pats_from 0 ps) (pushed (pats ps) parts) [] ≡ Some (ps, parts)
pats_back ps parts =
    ap (λ n. pats_off n (pushed (pats ps) parts) []) (counted_pats 0 ps ∙ from_zero (pats_count (pats ps)))
    ∙ pats_all_off (pats ps) parts
    ∙ ap (λ l. Some (l, parts)) (list-pats ps)

counted_fields : (n : ℕ) (fs : FieldExprs) → fields_from n fs ≡ from n (field_expr_list fs)
counted_fields n NoFieldExprs = refl
counted_fields n (MoreFieldExprs place name e fs) = counted_fields (n + 1) fs

counted_alts : (n : ℕ) (all : Alts) → alts_from n all ≡ from n (alt_list all)
counted_alts n NoAlts = refl
counted_alts n (MoreAlts p e all) = counted_alts (n + 1) all

counted_stmts : (n : ℕ) (ss : Stmts) → stmts_from n ss ≡ from n (stmt_list ss)
counted_stmts n NoStmts = refl
counted_stmts n (TakeThen p e ss) = counted_stmts (n + 1) ss
counted_stmts n (LetThen bs ss) = counted_stmts (n + 1) ss
counted_stmts n (DoThen e ss) = counted_stmts (n + 1) ss

counted_binds : (n : ℕ) (bs : Binds) → AreParsedBinds bs → binds_from n bs ≡ from n (bind_list bs)
counted_binds n NoBinds u = refl
counted_binds n (MoreBinds name place NoEquations bs) u = absurd u.0
counted_binds n (MoreBinds name place (MoreEquations ps first e local NoEquations) bs) u = counted_binds (n + 1) bs u.1
counted_binds n (MoreBinds name place (MoreEquations ps first e local (MoreEquations qs second f more rows)) bs) u = absurd u.0

fields_back : (fs : FieldExprs) (stack : List FieldExpr) → off (fields_from 0 fs) (reverse_aux (field_expr_list fs) stack) [] ≡ Some (field_expr_list fs, stack)
fields_back fs stack = ap (λ n. off n (reverse_aux (field_expr_list fs) stack) []) (counted_fields 0 fs) ∙ all_off (field_expr_list fs) stack

alts_back : (all : Alts) (stack : List Alt) → off (alts_from 0 all) (reverse_aux (alt_list all) stack) [] ≡ Some (alt_list all, stack)
alts_back all stack = ap (λ n. off n (reverse_aux (alt_list all) stack) []) (counted_alts 0 all) ∙ all_off (alt_list all) stack

stmts_back : (ss : Stmts) (stack : List Stmt) → off (stmts_from 0 ss) (reverse_aux (stmt_list ss) stack) [] ≡ Some (stmt_list ss, stack)
stmts_back ss stack = ap (λ n. off n (reverse_aux (stmt_list ss) stack) []) (counted_stmts 0 ss) ∙ all_off (stmt_list ss) stack

binds_back : (bs : Binds) (stack : List Bind) → AreParsedBinds bs → off (binds_from 0 bs) (reverse_aux (bind_list bs) stack) [] ≡ Some (bind_list bs, stack)
binds_back bs stack u = ap (λ n. off n (reverse_aux (bind_list bs) stack) []) (counted_binds 0 bs u) ∙ all_off (bind_list bs) stack

-- the operands with the operators between them, on these expressions
abbrev run_pushed : Exprs → Exprs → List Expr → List Expr
run_pushed NoExprs os stack = stack
run_pushed (MoreExprs e es) NoExprs stack = run_pushed es NoExprs (e ∷ stack)
run_pushed (MoreExprs e es) (MoreExprs o os) stack = run_pushed es os (o ∷ e ∷ stack)

one_more : (n : ℕ) → n + 1 ≡ suc n
one_more n = omega arith

run_back : (n : ℕ) (e : Expr) (es os : Exprs) (stack xs ys : List Expr) → IsRun (MoreExprs e es) os → run_off (exprs_from n os) (run_pushed (MoreExprs e es) os stack) xs ys ≡ run_off n (e ∷ stack) (expr_list es ++ xs) (expr_list os ++ ys)
unfolding run_off
run_back n e NoExprs NoExprs stack xs ys u = refl
run_back n e NoExprs (MoreExprs o os) stack xs ys u = absurd u.1.1
run_back n e (MoreExprs f es) NoExprs stack xs ys u = absurd u
run_back n e (MoreExprs f es) (MoreExprs o os) stack xs ys u =
    run_back (n + 1) f es os (o ∷ e ∷ stack) xs ys u.1.1
    ∙ ap (λ m. run_off m (f ∷ o ∷ e ∷ stack) (expr_list es ++ xs) (expr_list os ++ ys)) (one_more n)

run_all_off : (es os : Exprs) (stack : List Expr) → IsRun es os → run_off (exprs_from 0 os) (run_pushed es os stack) [] [] ≡ Some ((expr_list es, expr_list os), stack)
unfolding run_off
run_all_off NoExprs os stack u = absurd u
run_all_off (MoreExprs e es) os stack u =
    run_back 0 e es os stack [] [] u
    ∙ (λ i. Some ((e ∷ append-nil (expr_list es) i, append-nil (expr_list os) i), stack))

operator_found : (s0 : ExprBuilder) (out : List ExprNode) (s : ExprBuilder) (o : Expr) → IsOperator o → Leads s0 out s → Leads s0 (put_expr o out) (with_exprs s (o ∷ s.exprs))
operator_found s0 out s (AnExpr number place (tree.Var name)) u h =
    then stepped s0 s out (node.Var place name) h
    ∙ ap (λ n. Some (with_exprs s (AnExpr n place (tree.Var name) ∷ s.exprs))) (sym u)
operator_found s0 out s _ u h = absurd u

mutual
  pub expr_found : (s0 : ExprBuilder) (out : List ExprNode) (s : ExprBuilder) (e : Expr) → IsParsed e → Leads s0 out s → Leads s0 (put_expr e out) (with_exprs s (e ∷ s.exprs))
  expr_found s0 out s (AnExpr number place kind) u h =
      kind_found s0 out s place kind u.1 h
      ∙ ap (λ n. Some (with_exprs s (AnExpr n place kind ∷ s.exprs))) (sym u.0)

  kind_found : (s0 : ExprBuilder) (out : List ExprNode) (s : ExprBuilder) (place : Place) (kind : ExprKind) → IsParsedKind kind → Leads s0 out s → Leads s0 (put_kind place kind out) (with_exprs s (AnExpr 0 place kind ∷ s.exprs))
  kind_found s0 out s place (tree.Var n) u h = then stepped s0 s out (node.Var place n) h
  kind_found s0 out s place (tree.Con n) u h = then stepped s0 s out (node.Con place n) h
  kind_found s0 out s place (tree.Number k) u h = then stepped s0 s out (node.Number place k) h
  kind_found s0 out s place (tree.Bits width k) u h = then stepped s0 s out (node.Bits place width k) h
  kind_found s0 out s place tree.Unit u h = then stepped s0 s out (node.Unit place) h
  kind_found s0 out s place (tree.Apply f x) u h =
      then stepped s0 (with_exprs s (x ∷ f ∷ s.exprs)) (put_expr x (put_expr f out)) (node.Apply place)
      (expr_found s0 (put_expr f out) (with_exprs s (f ∷ s.exprs)) x u.1 (expr_found s0 out s f u.0 h))
  kind_found s0 out s place (tree.Run es os) u h =
      then stepped s0 (with_exprs s (run_pushed es os s.exprs)) (put_run es (puts os) out) (node.Run place (exprs_from 0 os)) (run_found s0 out s es os u h)
      ∙ ap (of_run s place) (run_all_off es os s.exprs u)
      ∙ (λ i. Some (with_exprs s (AnExpr 0 place (tree.Run (exprs-list es i) (exprs-list os i)) ∷ s.exprs)))
  kind_found s0 out s place (tree.Lambda ps e) u h =
      let s1 : ExprBuilder = with_parts s (pushed (pats ps) s.pats.parts) in
      then stepped s0 (with_exprs s1 (e ∷ s.exprs)) (put_expr e (put_pats ps out)) (node.Lambda place (pats_from 0 ps)) (expr_found s0 (put_pats ps out) s1 e u.1 (put_pats_found s0 out s ps u.0 h))
      ∙ ap (of_lambda s place (e ∷ s.exprs)) (pats_back ps s.pats.parts)
  kind_found s0 out s place (tree.Let bs e) u h =
      let s1 : ExprBuilder = with_binds s bs in
      then stepped s0 (with_exprs s1 (e ∷ s.exprs)) (put_expr e (put_binds bs out)) (node.Let place (binds_from 0 bs)) (expr_found s0 (put_binds bs out) s1 e u.1 (binds_found s0 out s bs u.0 h))
      ∙ ap (of_let s place (e ∷ s.exprs)) (binds_back bs s.binds u.0)
      ∙ ap (λ all. Some (with_exprs s (AnExpr 0 place (tree.Let all e) ∷ s.exprs))) (binds-list bs)
  kind_found s0 out s place (tree.If c a b) u h =
      let s1 : ExprBuilder = with_exprs s (c ∷ s.exprs) in
      let s2 : ExprBuilder = with_exprs s (a ∷ c ∷ s.exprs) in
      then stepped s0 (with_exprs s (b ∷ a ∷ c ∷ s.exprs)) (put_expr b (put_expr a (put_expr c out))) (node.If place)
      (expr_found s0 (put_expr a (put_expr c out)) s2 b u.1.1 (expr_found s0 (put_expr c out) s1 a u.1.0 (expr_found s0 out s c u.0 h)))
  kind_found s0 out s place (tree.Case e all) u h =
      let s1 : ExprBuilder = with_exprs s (e ∷ s.exprs) in
      then stepped s0 (with_alts s1 all) (put_alts all (put_expr e out)) (node.Case place (alts_from 0 all)) (alts_found s0 (put_expr e out) s1 all u.1 (expr_found s0 out s e u.0 h))
      ∙ ap (of_case s place (e ∷ s.exprs)) (alts_back all s.alts)
      ∙ ap (λ l. Some (with_exprs s (AnExpr 0 place (tree.Case e l) ∷ s.exprs))) (alts-list all)
  kind_found s0 out s place (tree.Do ss) u h =
      then stepped s0 (with_stmts s ss) (put_stmts ss out) (node.Do place (stmts_from 0 ss)) (stmts_found s0 out s ss u h)
      ∙ ap (of_do s place) (stmts_back ss s.stmts)
      ∙ ap (λ l. Some (with_exprs s (AnExpr 0 place (tree.Do l) ∷ s.exprs))) (stmts-list ss)
  kind_found s0 out s place (tree.Select e n) u h = then stepped s0 (with_exprs s (e ∷ s.exprs)) (put_expr e out) (node.Select place n) (expr_found s0 out s e u h)
  kind_found s0 out s place (tree.Build c fs) u h =
      then stepped s0 (with_fields s fs) (put_fields fs out) (node.Build place c (fields_from 0 fs)) (fields_found s0 out s fs u h)
      ∙ ap (of_build s place c) (fields_back fs s.fields)
      ∙ ap (λ l. Some (with_exprs s (AnExpr 0 place (tree.Build c l) ∷ s.exprs))) (field_exprs-list fs)
  kind_found s0 out s place (tree.Update e fs) u h =
      let s1 : ExprBuilder = with_exprs s (e ∷ s.exprs) in
      then stepped s0 (with_fields s1 fs) (put_fields fs (put_expr e out)) (node.Update place (fields_from 0 fs)) (fields_found s0 (put_expr e out) s1 fs u.1 (expr_found s0 out s e u.0 h))
      ∙ ap (of_update s place (e ∷ s.exprs)) (fields_back fs s.fields)
      ∙ ap (λ l. Some (with_exprs s (AnExpr 0 place (tree.Update e l) ∷ s.exprs))) (field_exprs-list fs)
  kind_found s0 out s place (tree.Pair a b) u h =
      then stepped s0 (with_exprs s (b ∷ a ∷ s.exprs)) (put_expr b (put_expr a out)) (node.Pair place)
      (expr_found s0 (put_expr a out) (with_exprs s (a ∷ s.exprs)) b u.1 (expr_found s0 out s a u.0 h))

  run_found : (s0 : ExprBuilder) (out : List ExprNode) (s : ExprBuilder) (es os : Exprs) → IsRun es os → Leads s0 out s → Leads s0 (put_run es (puts os) out) (with_exprs s (run_pushed es os s.exprs))
  run_found s0 out s NoExprs os u h = absurd u
  run_found s0 out s (MoreExprs e NoExprs) NoExprs u h = expr_found s0 out s e u h
  run_found s0 out s (MoreExprs e (MoreExprs f es)) NoExprs u h = absurd u
  run_found s0 out s (MoreExprs e es) (MoreExprs o os) u h =
      let s1 : ExprBuilder = with_exprs s (e ∷ s.exprs) in
      run_found s0 (put_expr o (put_expr e out)) (with_exprs s (o ∷ e ∷ s.exprs)) es os u.1.1
      (operator_found s0 (put_expr e out) s1 o u.1.0 (expr_found s0 out s e u.0 h))

  fields_found : (s0 : ExprBuilder) (out : List ExprNode) (s : ExprBuilder) (fs : FieldExprs) → AreParsedFields fs → Leads s0 out s → Leads s0 (put_fields fs out) (with_fields s fs)
  fields_found s0 out s NoFieldExprs u h = h
  fields_found s0 out s (MoreFieldExprs place name e fs) u h =
      let field : FieldExpr = record { place = place; name = name; value = e } in
      fields_found s0 (put_expr e out ++ node.Field place name ∷ []) (state s.pats.parts s.exprs (field ∷ s.fields) s.alts s.stmts s.binds) fs u.1
      (then stepped s0 (with_exprs s (e ∷ s.exprs)) (put_expr e out) (node.Field place name) (expr_found s0 out s e u.0 h))

  alts_found : (s0 : ExprBuilder) (out : List ExprNode) (s : ExprBuilder) (all : Alts) → AreParsedAlts all → Leads s0 out s → Leads s0 (put_alts all out) (with_alts s all)
  alts_found s0 out s NoAlts u h = h
  alts_found s0 out s (MoreAlts p e all) u h =
      let s1 : ExprBuilder = with_parts s (APart p ∷ s.pats.parts) in
      let alt : Alt = record { pat = p; body = e } in
      alts_found s0 (put_expr e (put_pat p out) ++ node.Alternative ∷ []) (state s.pats.parts s.exprs s.fields (alt ∷ s.alts) s.stmts s.binds) all u.1.1
      (then stepped s0 (with_exprs s1 (e ∷ s.exprs)) (put_expr e (put_pat p out)) node.Alternative (expr_found s0 (put_pat p out) s1 e u.1.0 (put_pat_found s0 out s p u.0 h)))

  stmts_found : (s0 : ExprBuilder) (out : List ExprNode) (s : ExprBuilder) (ss : Stmts) → AreParsedStmts ss → Leads s0 out s → Leads s0 (put_stmts ss out) (with_stmts s ss)
  stmts_found s0 out s NoStmts u h = h
  stmts_found s0 out s (TakeThen p e ss) u h =
      let s1 : ExprBuilder = with_parts s (APart p ∷ s.pats.parts) in
      stmts_found s0 (put_expr e (put_pat p out) ++ node.TakeStmt ∷ []) (state s.pats.parts s.exprs s.fields s.alts (Take p e ∷ s.stmts) s.binds) ss u.1.1
      (then stepped s0 (with_exprs s1 (e ∷ s.exprs)) (put_expr e (put_pat p out)) node.TakeStmt (expr_found s0 (put_pat p out) s1 e u.1.0 (put_pat_found s0 out s p u.0 h)))
  stmts_found s0 out s (LetThen bs ss) u h =
      stmts_found s0 (put_binds bs out ++ node.LetStmt (binds_from 0 bs) ∷ []) (state s.pats.parts s.exprs s.fields s.alts (Let (bind_list bs) ∷ s.stmts) s.binds) ss u.1
      (then stepped s0 (with_binds s bs) (put_binds bs out) (node.LetStmt (binds_from 0 bs)) (binds_found s0 out s bs u.0 h)
      ∙ ap (of_let_stmt s) (binds_back bs s.binds u.0))
  stmts_found s0 out s (DoThen e ss) u h =
      stmts_found s0 (put_expr e out ++ node.DoStmt ∷ []) (state s.pats.parts s.exprs s.fields s.alts (Do e ∷ s.stmts) s.binds) ss u.1
      (then stepped s0 (with_exprs s (e ∷ s.exprs)) (put_expr e out) node.DoStmt (expr_found s0 out s e u.0 h))

  binds_found : (s0 : ExprBuilder) (out : List ExprNode) (s : ExprBuilder) (bs : Binds) → AreParsedBinds bs → Leads s0 out s → Leads s0 (put_binds bs out) (with_binds s bs)
  binds_found s0 out s NoBinds u h = h
  binds_found s0 out s (MoreBinds name place rows bs) u h =
      binds_found s0 (put_rows name place rows out) (with_binds s (MoreBinds name place rows NoBinds)) bs u.1 (rows_found s0 out s name place rows u.0 h)

  pub rows_found : (s0 : ExprBuilder) (out : List ExprNode) (s : ExprBuilder) (name : Name) (place : Place) (rows : Equations) → IsOneRow rows → Leads s0 out s → Leads s0 (put_rows name place rows out) (with_binds s (MoreBinds name place rows NoBinds))
  rows_found s0 out s name place NoEquations u h = absurd u
  rows_found s0 out s name place (MoreEquations ps first e bs NoEquations) u h =
      let s1 : ExprBuilder = with_parts s (pushed (pats ps) s.pats.parts) in
      let s2 : ExprBuilder = with_exprs s1 (e ∷ s.exprs) in
      let out2 : List ExprNode = put_expr e (put_pats ps out) in
      then stepped s0 (with_binds s2 bs) (put_binds bs out2) (node.Row name place (pats_from 0 ps) first (binds_from 0 bs))
      (binds_found s0 out2 s2 bs u.1.1 (expr_found s0 (put_pats ps out) s1 e u.1.0 (put_pats_found s0 out s ps u.0 h)))
      ∙ (λ i. of_row s name place first (pats_back ps s.pats.parts i) (e ∷ s.exprs) (binds_back bs s.binds u.1.1 i))
      ∙ ap (λ all. Some (state s.pats.parts s.exprs s.fields s.alts s.stmts (record { name = name; place = place; rows = record { pats = ps; first = first; body = e; local = all } ∷ [] } ∷ s.binds))) (binds-list bs)
  rows_found s0 out s name place (MoreEquations ps first e bs (MoreEquations qs second f more rows)) u h = absurd u

-- How the logic stores an expression.
use Rattle.std.proofs.Common.{◌≡◌, ℕ, List, refl, ap}
use Rattle.std.specs.Coded.{Coded, code_by, coded×, coded_ℕ}
use base.Stored.{Gv, gnil, gnum, gcons}
use Rattle.hb_base.specs.declared.place.Place.{Place}
use Rattle.hb_base.specs.contracts.place.Place as place
use Rattle.hb_base.specs.contracts.name.Name as name
use Rattle.hb_tree.specs.Coding.{head, tail, differ}
use Rattle.hb_tree.specs.Patterns.{Pat}
use Rattle.hb_tree.specs.PatternCodes.{coded_pat, coded_pats}
use Rattle.hb_tree.specs.Expressions.{Expr, AnExpr, ExprKind, Var, Con, Number, Bits, Unit, Apply, Run, Lambda, Let, If, Case, Do, Select, Build, Update, Pair, Exprs, NoExprs, MoreExprs, FieldExprs, NoFieldExprs, MoreFieldExprs, Alts, NoAlts, MoreAlts, Stmts, NoStmts, TakeThen, LetThen, DoThen, Binds, NoBinds, MoreBinds, Equations, NoEquations, MoreEquations, Equation}

abbrev mutual
  pub expr_code : Expr → Gv
  expr_code (AnExpr a0 a1 a2) = gcons (gnum a0) (gcons (place.the_row.coded.code a1) (kind_code a2))

  pub kind_code : ExprKind → Gv
  kind_code (Var a0) = gcons (gnum 0) (name.the_row.coded.code a0)
  kind_code (Con a0) = gcons (gnum 1) (name.the_row.coded.code a0)
  kind_code (Number a0) = gcons (gnum 2) (gnum a0)
  kind_code (Bits a0 a1) = gcons (gnum 3) (gcons (gnum a0) (gnum a1))
  kind_code Unit = gcons (gnum 4) gnil
  kind_code (Apply a0 a1) = gcons (gnum 5) (gcons (expr_code a0) (expr_code a1))
  kind_code (Run a0 a1) = gcons (gnum 6) (gcons (exprs_code a0) (exprs_code a1))
  kind_code (Lambda a0 a1) = gcons (gnum 7) (gcons (coded_pats.code a0) (expr_code a1))
  kind_code (Let a0 a1) = gcons (gnum 8) (gcons (binds_code a0) (expr_code a1))
  kind_code (If a0 a1 a2) = gcons (gnum 9) (gcons (expr_code a0) (gcons (expr_code a1) (expr_code a2)))
  kind_code (Case a0 a1) = gcons (gnum 10) (gcons (expr_code a0) (alts_code a1))
  kind_code (Do a0) = gcons (gnum 11) (stmts_code a0)
  kind_code (Select a0 a1) = gcons (gnum 12) (gcons (expr_code a0) (name.the_row.coded.code a1))
  kind_code (Build a0 a1) = gcons (gnum 13) (gcons (name.the_row.coded.code a0) (fields_code a1))
  kind_code (Update a0 a1) = gcons (gnum 14) (gcons (expr_code a0) (fields_code a1))
  kind_code (Pair a0 a1) = gcons (gnum 15) (gcons (expr_code a0) (expr_code a1))

  pub exprs_code : Exprs → Gv
  exprs_code NoExprs = gcons (gnum 0) gnil
  exprs_code (MoreExprs a0 a1) = gcons (gnum 1) (gcons (expr_code a0) (exprs_code a1))

  pub fields_code : FieldExprs → Gv
  fields_code NoFieldExprs = gcons (gnum 0) gnil
  fields_code (MoreFieldExprs a0 a1 a2 a3) = gcons (gnum 1) (gcons (place.the_row.coded.code a0) (gcons (name.the_row.coded.code a1) (gcons (expr_code a2) (fields_code a3))))

  pub alts_code : Alts → Gv
  alts_code NoAlts = gcons (gnum 0) gnil
  alts_code (MoreAlts a0 a1 a2) = gcons (gnum 1) (gcons (coded_pat.code a0) (gcons (expr_code a1) (alts_code a2)))

  pub stmts_code : Stmts → Gv
  stmts_code NoStmts = gcons (gnum 0) gnil
  stmts_code (TakeThen a0 a1 a2) = gcons (gnum 1) (gcons (coded_pat.code a0) (gcons (expr_code a1) (stmts_code a2)))
  stmts_code (LetThen a0 a1) = gcons (gnum 2) (gcons (binds_code a0) (stmts_code a1))
  stmts_code (DoThen a0 a1) = gcons (gnum 3) (gcons (expr_code a0) (stmts_code a1))

  pub binds_code : Binds → Gv
  binds_code NoBinds = gcons (gnum 0) gnil
  binds_code (MoreBinds a0 a1 a2 a3) = gcons (gnum 1) (gcons (name.the_row.coded.code a0) (gcons (place.the_row.coded.code a1) (gcons (equations_code a2) (binds_code a3))))

  pub equations_code : Equations → Gv
  equations_code NoEquations = gcons (gnum 0) gnil
  equations_code (MoreEquations a0 a1 a2 a3 a4) = gcons (gnum 1) (gcons (coded_pats.code a0) (gcons (place.the_row.coded.code a1) (gcons (expr_code a2) (gcons (binds_code a3) (equations_code a4)))))

abbrev kind_tag : ExprKind → ℕ
kind_tag (Var a0) = 0
kind_tag (Con a0) = 1
kind_tag (Number a0) = 2
kind_tag (Bits a0 a1) = 3
kind_tag Unit = 4
kind_tag (Apply a0 a1) = 5
kind_tag (Run a0 a1) = 6
kind_tag (Lambda a0 a1) = 7
kind_tag (Let a0 a1) = 8
kind_tag (If a0 a1 a2) = 9
kind_tag (Case a0 a1) = 10
kind_tag (Do a0) = 11
kind_tag (Select a0 a1) = 12
kind_tag (Build a0 a1) = 13
kind_tag (Update a0 a1) = 14
kind_tag (Pair a0 a1) = 15

abbrev exprs_tag : Exprs → ℕ
exprs_tag NoExprs = 0
exprs_tag (MoreExprs a0 a1) = 1

abbrev fields_tag : FieldExprs → ℕ
fields_tag NoFieldExprs = 0
fields_tag (MoreFieldExprs a0 a1 a2 a3) = 1

abbrev alts_tag : Alts → ℕ
alts_tag NoAlts = 0
alts_tag (MoreAlts a0 a1 a2) = 1

abbrev stmts_tag : Stmts → ℕ
stmts_tag NoStmts = 0
stmts_tag (TakeThen a0 a1 a2) = 1
stmts_tag (LetThen a0 a1) = 2
stmts_tag (DoThen a0 a1) = 3

abbrev binds_tag : Binds → ℕ
binds_tag NoBinds = 0
binds_tag (MoreBinds a0 a1 a2 a3) = 1

abbrev equations_tag : Equations → ℕ
equations_tag NoEquations = 0
equations_tag (MoreEquations a0 a1 a2 a3 a4) = 1

mutual
  pub expr_inj : (x y : Expr) → expr_code x ≡ expr_code y → x ≡ y
  expr_inj (AnExpr a0 a1 a2) (AnExpr b0 b1 b2) e = λ i. AnExpr (coded_ℕ.inj a0 b0 (ap head e) i) (place.the_row.coded.inj a1 b1 (ap (λ g. head (tail g)) e) i) (kind_inj a2 b2 (ap (λ g. tail (tail g)) e) i)

  pub kind_inj : (x y : ExprKind) → kind_code x ≡ kind_code y → x ≡ y
  kind_inj (Var a0) (Var b0) e = λ i. Var (name.the_row.coded.inj a0 b0 (ap tail e) i)
  kind_inj (Con a0) (Con b0) e = λ i. Con (name.the_row.coded.inj a0 b0 (ap tail e) i)
  kind_inj (Number a0) (Number b0) e = λ i. Number (coded_ℕ.inj a0 b0 (ap tail e) i)
  kind_inj (Bits a0 a1) (Bits b0 b1) e = λ i. Bits (coded_ℕ.inj a0 b0 (ap (λ g. head (tail g)) e) i) (coded_ℕ.inj a1 b1 (ap (λ g. tail (tail g)) e) i)
  kind_inj Unit Unit e = refl
  kind_inj (Apply a0 a1) (Apply b0 b1) e = λ i. Apply (expr_inj a0 b0 (ap (λ g. head (tail g)) e) i) (expr_inj a1 b1 (ap (λ g. tail (tail g)) e) i)
  kind_inj (Run a0 a1) (Run b0 b1) e = λ i. Run (exprs_inj a0 b0 (ap (λ g. head (tail g)) e) i) (exprs_inj a1 b1 (ap (λ g. tail (tail g)) e) i)
  kind_inj (Lambda a0 a1) (Lambda b0 b1) e = λ i. Lambda (coded_pats.inj a0 b0 (ap (λ g. head (tail g)) e) i) (expr_inj a1 b1 (ap (λ g. tail (tail g)) e) i)
  kind_inj (Let a0 a1) (Let b0 b1) e = λ i. Let (binds_inj a0 b0 (ap (λ g. head (tail g)) e) i) (expr_inj a1 b1 (ap (λ g. tail (tail g)) e) i)
  kind_inj (If a0 a1 a2) (If b0 b1 b2) e = λ i. If (expr_inj a0 b0 (ap (λ g. head (tail g)) e) i) (expr_inj a1 b1 (ap (λ g. head (tail (tail g))) e) i) (expr_inj a2 b2 (ap (λ g. tail (tail (tail g))) e) i)
  kind_inj (Case a0 a1) (Case b0 b1) e = λ i. Case (expr_inj a0 b0 (ap (λ g. head (tail g)) e) i) (alts_inj a1 b1 (ap (λ g. tail (tail g)) e) i)
  kind_inj (Do a0) (Do b0) e = λ i. Do (stmts_inj a0 b0 (ap tail e) i)
  kind_inj (Select a0 a1) (Select b0 b1) e = λ i. Select (expr_inj a0 b0 (ap (λ g. head (tail g)) e) i) (name.the_row.coded.inj a1 b1 (ap (λ g. tail (tail g)) e) i)
  kind_inj (Build a0 a1) (Build b0 b1) e = λ i. Build (name.the_row.coded.inj a0 b0 (ap (λ g. head (tail g)) e) i) (fields_inj a1 b1 (ap (λ g. tail (tail g)) e) i)
  kind_inj (Update a0 a1) (Update b0 b1) e = λ i. Update (expr_inj a0 b0 (ap (λ g. head (tail g)) e) i) (fields_inj a1 b1 (ap (λ g. tail (tail g)) e) i)
  kind_inj (Pair a0 a1) (Pair b0 b1) e = λ i. Pair (expr_inj a0 b0 (ap (λ g. head (tail g)) e) i) (expr_inj a1 b1 (ap (λ g. tail (tail g)) e) i)
  kind_inj x y e = differ (kind_tag x) (kind_tag y) refl e

  pub exprs_inj : (x y : Exprs) → exprs_code x ≡ exprs_code y → x ≡ y
  exprs_inj NoExprs NoExprs e = refl
  exprs_inj (MoreExprs a0 a1) (MoreExprs b0 b1) e = λ i. MoreExprs (expr_inj a0 b0 (ap (λ g. head (tail g)) e) i) (exprs_inj a1 b1 (ap (λ g. tail (tail g)) e) i)
  exprs_inj x y e = differ (exprs_tag x) (exprs_tag y) refl e

  pub fields_inj : (x y : FieldExprs) → fields_code x ≡ fields_code y → x ≡ y
  fields_inj NoFieldExprs NoFieldExprs e = refl
  fields_inj (MoreFieldExprs a0 a1 a2 a3) (MoreFieldExprs b0 b1 b2 b3) e = λ i. MoreFieldExprs (place.the_row.coded.inj a0 b0 (ap (λ g. head (tail g)) e) i) (name.the_row.coded.inj a1 b1 (ap (λ g. head (tail (tail g))) e) i) (expr_inj a2 b2 (ap (λ g. head (tail (tail (tail g)))) e) i) (fields_inj a3 b3 (ap (λ g. tail (tail (tail (tail g)))) e) i)
  fields_inj x y e = differ (fields_tag x) (fields_tag y) refl e

  pub alts_inj : (x y : Alts) → alts_code x ≡ alts_code y → x ≡ y
  alts_inj NoAlts NoAlts e = refl
  alts_inj (MoreAlts a0 a1 a2) (MoreAlts b0 b1 b2) e = λ i. MoreAlts (coded_pat.inj a0 b0 (ap (λ g. head (tail g)) e) i) (expr_inj a1 b1 (ap (λ g. head (tail (tail g))) e) i) (alts_inj a2 b2 (ap (λ g. tail (tail (tail g))) e) i)
  alts_inj x y e = differ (alts_tag x) (alts_tag y) refl e

  pub stmts_inj : (x y : Stmts) → stmts_code x ≡ stmts_code y → x ≡ y
  stmts_inj NoStmts NoStmts e = refl
  stmts_inj (TakeThen a0 a1 a2) (TakeThen b0 b1 b2) e = λ i. TakeThen (coded_pat.inj a0 b0 (ap (λ g. head (tail g)) e) i) (expr_inj a1 b1 (ap (λ g. head (tail (tail g))) e) i) (stmts_inj a2 b2 (ap (λ g. tail (tail (tail g))) e) i)
  stmts_inj (LetThen a0 a1) (LetThen b0 b1) e = λ i. LetThen (binds_inj a0 b0 (ap (λ g. head (tail g)) e) i) (stmts_inj a1 b1 (ap (λ g. tail (tail g)) e) i)
  stmts_inj (DoThen a0 a1) (DoThen b0 b1) e = λ i. DoThen (expr_inj a0 b0 (ap (λ g. head (tail g)) e) i) (stmts_inj a1 b1 (ap (λ g. tail (tail g)) e) i)
  stmts_inj x y e = differ (stmts_tag x) (stmts_tag y) refl e

  pub binds_inj : (x y : Binds) → binds_code x ≡ binds_code y → x ≡ y
  binds_inj NoBinds NoBinds e = refl
  binds_inj (MoreBinds a0 a1 a2 a3) (MoreBinds b0 b1 b2 b3) e = λ i. MoreBinds (name.the_row.coded.inj a0 b0 (ap (λ g. head (tail g)) e) i) (place.the_row.coded.inj a1 b1 (ap (λ g. head (tail (tail g))) e) i) (equations_inj a2 b2 (ap (λ g. head (tail (tail (tail g)))) e) i) (binds_inj a3 b3 (ap (λ g. tail (tail (tail (tail g)))) e) i)
  binds_inj x y e = differ (binds_tag x) (binds_tag y) refl e

  pub equations_inj : (x y : Equations) → equations_code x ≡ equations_code y → x ≡ y
  equations_inj NoEquations NoEquations e = refl
  equations_inj (MoreEquations a0 a1 a2 a3 a4) (MoreEquations b0 b1 b2 b3 b4) e = λ i. MoreEquations (coded_pats.inj a0 b0 (ap (λ g. head (tail g)) e) i) (place.the_row.coded.inj a1 b1 (ap (λ g. head (tail (tail g))) e) i) (expr_inj a2 b2 (ap (λ g. head (tail (tail (tail g)))) e) i) (binds_inj a3 b3 (ap (λ g. head (tail (tail (tail (tail g))))) e) i) (equations_inj a4 b4 (ap (λ g. tail (tail (tail (tail (tail g))))) e) i)
  equations_inj x y e = differ (equations_tag x) (equations_tag y) refl e

abbrev pub coded_expr : Coded Expr
coded_expr = record { code = expr_code; inj = expr_inj }

abbrev pub coded_binds : Coded Binds
coded_binds = record { code = binds_code; inj = binds_inj }

abbrev pub coded_equation : Coded Equation
coded_equation =
    code_by (List Pat × (Place × (Expr × Binds))) (coded× coded_pats (coded× place.the_row.coded (coded× coded_expr coded_binds)))
    (λ e. (e.pats, (e.first, (e.body, e.local)))) (λ p. record { pats = p.0; first = p.1.0; body = p.1.1.0; local = p.1.1.1 }) (λ _. refl)

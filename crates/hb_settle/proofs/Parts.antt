-- Each part of a list is smaller than the list.
use Rattle.std.specs.Prelude.{ℕ, ◌+◌, ◌<◌, ◌≤◌, List, [], ◌∷◌, length}
use Rattle.std.proofs.Common.{arith, get_or, zero, suc}
use Rattle.hb_tree.specs.Patterns.{Pat, pat_size, pats_size, fields_size as field_pats_size}
use Rattle.hb_tree.specs.PatternViews.{pats, field_pats}
use Rattle.hb_tree.specs.Expressions.{Expr, Equation, expr_size, exprs_size, fields_size, alts_size, stmts_size, binds_size, equations_size, equation_size}
use Rattle.hb_tree.specs.ExpressionViews.{exprs, field_exprs, alts, stmts, binds, equations}
use Rattle.hb_tree.specs.Initials.{InitExpr, init_size, fields_size as inits_size}
use Rattle.hb_tree.specs.InitialViews.{field_inits}
use Rattle.hb_tree.specs.declared.pattern.FieldPat.{FieldPat}
use Rattle.hb_tree.specs.declared.expression.FieldExpr.{FieldExpr}
use Rattle.hb_tree.specs.declared.statement.Alt.{Alt}
use Rattle.hb_tree.specs.declared.statement.Bind.{Bind}
use Rattle.hb_tree.specs.declared.statement.Stmt.{Stmt}
use Rattle.hb_tree.specs.declared.statement.Stmt.TheVariants as stmt
use Rattle.hb_tree.specs.declared.initial.FieldInit.{FieldInit}
use Rattle.hb_settle.specs.Sizes.{stmt_size}

pub pat_falls : (ps : List Pat) (i : ℕ) (d : Pat) → i < length ps → pat_size (get_or ps i d) < pats_size (pats ps)
pat_falls [] i d h = omega arith
pat_falls (p ∷ ps) zero d h = omega arith
pat_falls (p ∷ ps) (suc i) d h = omega (arith, pat_falls ps i d (omega arith))

pub field_pat_falls : (fs : List FieldPat) (i : ℕ) (d : FieldPat) → i < length fs → pat_size (get_or fs i d).pat < field_pats_size (field_pats fs)
field_pat_falls [] i d h = omega arith
field_pat_falls (f ∷ fs) zero d h = omega arith
field_pat_falls (f ∷ fs) (suc i) d h = omega (arith, field_pat_falls fs i d (omega arith))

pub expr_falls : (es : List Expr) (i : ℕ) (d : Expr) → i < length es → expr_size (get_or es i d) < exprs_size (exprs es)
expr_falls [] i d h = omega arith
expr_falls (e ∷ es) zero d h = omega arith
expr_falls (e ∷ es) (suc i) d h = omega (arith, expr_falls es i d (omega arith))

pub field_falls : (fs : List FieldExpr) (i : ℕ) (d : FieldExpr) → i < length fs → expr_size (get_or fs i d).value < fields_size (field_exprs fs)
field_falls [] i d h = omega arith
field_falls (f ∷ fs) zero d h = omega arith
field_falls (f ∷ fs) (suc i) d h = omega (arith, field_falls fs i d (omega arith))

pub alt_falls : (all : List Alt) (i : ℕ) (d : Alt) → i < length all → expr_size (get_or all i d).body < alts_size (alts all)
alt_falls [] i d h = omega arith
alt_falls (a ∷ all) zero d h = omega arith
alt_falls (a ∷ all) (suc i) d h = omega (arith, alt_falls all i d (omega arith))

pub stmt_falls : (ss : List Stmt) (i : ℕ) (d : Stmt) → i < length ss → stmt_size (get_or ss i d) < stmts_size (stmts ss)
stmt_falls [] i d h = omega arith
stmt_falls (stmt.Take p e ∷ ss) zero d h = omega arith
stmt_falls (stmt.Let bs ∷ ss) zero d h = omega arith
stmt_falls (stmt.Do e ∷ ss) zero d h = omega arith
stmt_falls (stmt.Take p e ∷ ss) (suc i) d h = omega (arith, stmt_falls ss i d (omega arith))
stmt_falls (stmt.Let bs ∷ ss) (suc i) d h = omega (arith, stmt_falls ss i d (omega arith))
stmt_falls (stmt.Do e ∷ ss) (suc i) d h = omega (arith, stmt_falls ss i d (omega arith))

pub bind_falls : (bs : List Bind) (i : ℕ) (d : Bind) → i < length bs → equations_size (equations (get_or bs i d).rows) < binds_size (binds bs)
bind_falls [] i d h = omega arith
bind_falls (b ∷ bs) zero d h = omega arith
bind_falls (b ∷ bs) (suc i) d h = omega (arith, bind_falls bs i d (omega arith))

pub row_falls : (es : List Equation) (i : ℕ) (d : Equation) → i < length es → equation_size (get_or es i d) ≤ equations_size (equations es)
row_falls [] i d h = omega arith
row_falls (e ∷ es) zero d h = omega arith
row_falls (e ∷ es) (suc i) d h = omega (arith, row_falls es i d (omega arith))

pub init_falls : (fs : List FieldInit) (i : ℕ) (d : FieldInit) → i < length fs → init_size (get_or fs i d).init < inits_size (field_inits fs)
init_falls [] i d h = omega arith
init_falls (f ∷ fs) zero d h = omega arith
init_falls (f ∷ fs) (suc i) d h = omega (arith, init_falls fs i d (omega arith))

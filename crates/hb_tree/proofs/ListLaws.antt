-- A list of parts and the parts as a form holds them say the same: each gives the other back.
use Rattle.std.proofs.Common.{◌≡◌, refl, ap, List, [], ◌∷◌}
use Rattle.hb_tree.specs.Patterns.{Pat, Pats, NoPats, MorePats, FieldPats, NoFieldPats, MoreFieldPats}
use Rattle.hb_tree.specs.PatternViews.{pats, field_pats}
use Rattle.hb_tree.specs.Expressions.{Expr, Exprs, NoExprs, MoreExprs, FieldExprs, NoFieldExprs, MoreFieldExprs, Alts, NoAlts, MoreAlts, Stmts, NoStmts, TakeThen, LetThen, DoThen, Binds, NoBinds, MoreBinds, Equations, NoEquations, MoreEquations, Equation}
use Rattle.hb_tree.specs.ExpressionViews.{exprs, field_exprs, alts, stmts, binds, equations}
use Rattle.hb_tree.specs.Initials.{FieldInits, NoFieldInits, MoreFieldInits}
use Rattle.hb_tree.specs.InitialViews.{field_inits}
use Rattle.hb_tree.specs.Lists.{pat_list, field_pat_list, expr_list, field_expr_list, alt_list, equation_list, bind_list, stmt_list, field_init_list}
use Rattle.hb_tree.specs.declared.pattern.FieldPat.{FieldPat}
use Rattle.hb_tree.specs.declared.expression.FieldExpr.{FieldExpr}
use Rattle.hb_tree.specs.declared.statement.Alt.{Alt}
use Rattle.hb_tree.specs.declared.statement.Bind.{Bind}
use Rattle.hb_tree.specs.declared.statement.Stmt.{Stmt}
use Rattle.hb_tree.specs.declared.statement.Stmt.TheVariants.{Take, Let, Do}
use Rattle.hb_tree.specs.declared.initial.FieldInit.{FieldInit}

pub list-pats : (ps : List Pat) → pat_list (pats ps) ≡ ps
list-pats [] = refl
list-pats (p ∷ ps) = ap (λ r. p ∷ r) (list-pats ps)

pub pats-list : (ps : Pats) → pats (pat_list ps) ≡ ps
pats-list NoPats = refl
pats-list (MorePats p ps) = ap (MorePats p) (pats-list ps)

pub list-field_pats : (fs : List FieldPat) → field_pat_list (field_pats fs) ≡ fs
list-field_pats [] = refl
list-field_pats (f ∷ fs) = ap (λ r. f ∷ r) (list-field_pats fs)

pub field_pats-list : (fs : FieldPats) → field_pats (field_pat_list fs) ≡ fs
field_pats-list NoFieldPats = refl
field_pats-list (MoreFieldPats at x p fs) = ap (MoreFieldPats at x p) (field_pats-list fs)

pub list-exprs : (es : List Expr) → expr_list (exprs es) ≡ es
list-exprs [] = refl
list-exprs (e ∷ es) = ap (λ r. e ∷ r) (list-exprs es)

pub exprs-list : (es : Exprs) → exprs (expr_list es) ≡ es
exprs-list NoExprs = refl
exprs-list (MoreExprs e es) = ap (MoreExprs e) (exprs-list es)

pub list-field_exprs : (fs : List FieldExpr) → field_expr_list (field_exprs fs) ≡ fs
list-field_exprs [] = refl
list-field_exprs (f ∷ fs) = ap (λ r. f ∷ r) (list-field_exprs fs)

pub field_exprs-list : (fs : FieldExprs) → field_exprs (field_expr_list fs) ≡ fs
field_exprs-list NoFieldExprs = refl
field_exprs-list (MoreFieldExprs at x e fs) = ap (MoreFieldExprs at x e) (field_exprs-list fs)

pub list-alts : (all : List Alt) → alt_list (alts all) ≡ all
list-alts [] = refl
list-alts (a ∷ rest) = ap (λ r. a ∷ r) (list-alts rest)

pub alts-list : (all : Alts) → alts (alt_list all) ≡ all
alts-list NoAlts = refl
alts-list (MoreAlts p e rest) = ap (MoreAlts p e) (alts-list rest)

pub list-equations : (rows : List Equation) → equation_list (equations rows) ≡ rows
list-equations [] = refl
list-equations (e ∷ rest) = ap (λ r. e ∷ r) (list-equations rest)

pub equations-list : (rows : Equations) → equations (equation_list rows) ≡ rows
equations-list NoEquations = refl
equations-list (MoreEquations ps at e bs rest) = ap (MoreEquations ps at e bs) (equations-list rest)

pub list-binds : (bs : List Bind) → bind_list (binds bs) ≡ bs
list-binds [] = refl
list-binds (b ∷ bs) = λ i. record { name = b.name; place = b.place; rows = list-equations b.rows i } ∷ list-binds bs i

pub binds-list : (bs : Binds) → binds (bind_list bs) ≡ bs
binds-list NoBinds = refl
binds-list (MoreBinds x at rows rest) = λ i. MoreBinds x at (equations-list rows i) (binds-list rest i)

pub list-stmts : (ss : List Stmt) → stmt_list (stmts ss) ≡ ss
list-stmts [] = refl
list-stmts (Take p e ∷ ss) = ap (λ r. Take p e ∷ r) (list-stmts ss)
list-stmts (Let bs ∷ ss) = λ i. Let (list-binds bs i) ∷ list-stmts ss i
list-stmts (Do e ∷ ss) = ap (λ r. Do e ∷ r) (list-stmts ss)

pub stmts-list : (ss : Stmts) → stmts (stmt_list ss) ≡ ss
stmts-list NoStmts = refl
stmts-list (TakeThen p e rest) = ap (TakeThen p e) (stmts-list rest)
stmts-list (LetThen bs rest) = λ i. LetThen (binds-list bs i) (stmts-list rest i)
stmts-list (DoThen e rest) = ap (DoThen e) (stmts-list rest)

pub list-field_inits : (fs : List FieldInit) → field_init_list (field_inits fs) ≡ fs
list-field_inits [] = refl
list-field_inits (f ∷ fs) = ap (λ r. f ∷ r) (list-field_inits fs)

pub field_inits-list : (fs : FieldInits) → field_inits (field_init_list fs) ≡ fs
field_inits-list NoFieldInits = refl
field_inits-list (MoreFieldInits x i rest) = ap (MoreFieldInits x i) (field_inits-list rest)

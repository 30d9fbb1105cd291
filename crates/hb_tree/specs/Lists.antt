-- The parts of a form as a list again: what the lists of parts that a form holds are made of.
use Rattle.std.specs.Prelude.{List, [], ◌∷◌}
use Rattle.hb_tree.specs.Patterns.{Pat, Pats, NoPats, MorePats, FieldPats, NoFieldPats, MoreFieldPats}
use Rattle.hb_tree.specs.Expressions.{Expr, Exprs, NoExprs, MoreExprs, FieldExprs, NoFieldExprs, MoreFieldExprs, Alts, NoAlts, MoreAlts, Stmts, NoStmts, TakeThen, LetThen, DoThen, Binds, NoBinds, MoreBinds, Equations, NoEquations, MoreEquations, Equation}
use Rattle.hb_tree.specs.Initials.{FieldInits, NoFieldInits, MoreFieldInits}
use Rattle.hb_tree.specs.declared.pattern.FieldPat.{FieldPat}
use Rattle.hb_tree.specs.declared.expression.FieldExpr.{FieldExpr}
use Rattle.hb_tree.specs.declared.statement.Alt.{Alt}
use Rattle.hb_tree.specs.declared.statement.Bind.{Bind}
use Rattle.hb_tree.specs.declared.statement.Stmt.{Stmt}
use Rattle.hb_tree.specs.declared.statement.Stmt.TheVariants.{Take, Let, Do}
use Rattle.hb_tree.specs.declared.initial.FieldInit.{FieldInit}

abbrev pub pat_list : Pats → List Pat
pat_list NoPats = []
pat_list (MorePats p ps) = p ∷ pat_list ps

abbrev pub field_pat_list : FieldPats → List FieldPat
field_pat_list NoFieldPats = []
field_pat_list (MoreFieldPats at x p fs) = record { place = at; name = x; pat = p } ∷ field_pat_list fs

abbrev pub expr_list : Exprs → List Expr
expr_list NoExprs = []
expr_list (MoreExprs e es) = e ∷ expr_list es

abbrev pub field_expr_list : FieldExprs → List FieldExpr
field_expr_list NoFieldExprs = []
field_expr_list (MoreFieldExprs at x e fs) = record { place = at; name = x; value = e } ∷ field_expr_list fs

abbrev pub alt_list : Alts → List Alt
alt_list NoAlts = []
alt_list (MoreAlts p e rest) = record { pat = p; body = e } ∷ alt_list rest

abbrev pub equation_list : Equations → List Equation
equation_list NoEquations = []
equation_list (MoreEquations ps at e bs rest) = record { pats = ps; first = at; body = e; local = bs } ∷ equation_list rest

abbrev pub bind_list : Binds → List Bind
bind_list NoBinds = []
bind_list (MoreBinds x at rows rest) = record { name = x; place = at; rows = equation_list rows } ∷ bind_list rest

abbrev pub stmt_list : Stmts → List Stmt
stmt_list NoStmts = []
stmt_list (TakeThen p e rest) = Take p e ∷ stmt_list rest
stmt_list (LetThen bs rest) = Let (bind_list bs) ∷ stmt_list rest
stmt_list (DoThen e rest) = Do e ∷ stmt_list rest

abbrev pub field_init_list : FieldInits → List FieldInit
field_init_list NoFieldInits = []
field_init_list (MoreFieldInits x i rest) = record { name = x; init = i } ∷ field_init_list rest

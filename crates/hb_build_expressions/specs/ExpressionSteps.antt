-- How a node of an expression changes what is built so far. Each kind of part has a stack of its own, whose top is the
-- first of its list. Each node takes its parts off the stacks and puts the whole on. Where the parts are not there, no
-- tree has such nodes.
use Rattle.std.specs.Prelude.{List, [], ◌∷◌, Option, Some, None}
use Rattle.hb_base.specs.declared.place.Place.{Place}
use Rattle.hb_base.specs.declared.name.Name.{Name}
use Rattle.hb_tree.specs.declared.expression.FieldExpr.{FieldExpr}
use Rattle.hb_tree.specs.declared.statement.Alt.{Alt}
use Rattle.hb_tree.specs.declared.statement.Bind.{Bind}
use Rattle.hb_tree.specs.declared.statement.Stmt.{Stmt}
use Rattle.hb_tree.specs.declared.statement.Stmt.TheVariants.{Take, Let, Do}
use Rattle.hb_tree.specs.Patterns.{Pat}
use Rattle.hb_tree.specs.Expressions.{Expr, AnExpr, ExprKind}
use Rattle.hb_tree.specs.Expressions as tree
use Rattle.hb_tree.specs.ExpressionViews.{exprs, field_exprs, alts, stmts, binds}
use Rattle.hb_read_expressions.specs.declared.node.ExprNode.{ExprNode}
use Rattle.hb_read_expressions.specs.declared.node.ExprNode.TheVariants as node
use Rattle.hb_build.specs.declared.pattern_builder.Part.{Part}
use Rattle.hb_build.specs.PatternSteps.{pat_off, pats_off, stepped as pat_stepped}
use Rattle.hb_build_expressions.specs.Taking.{off, two_off, lone, Run, run_off}
use Rattle.hb_build_expressions.specs.declared.builder.ExprBuilder.{ExprBuilder}

-- the parts of patterns, and then each other kind of part
abbrev pub state : List Part → List Expr → List FieldExpr → List Alt → List Stmt → List Bind → ExprBuilder
state pats exprs fields alts stmts binds = record { pats = record { parts = pats }; exprs = exprs; fields = fields; alts = alts; stmts = stmts; binds = binds }

abbrev pub start : ExprBuilder
start = state [] [] [] [] [] []

abbrev pub with_exprs : ExprBuilder → List Expr → ExprBuilder
with_exprs s exprs = state s.pats.parts exprs s.fields s.alts s.stmts s.binds

-- an expression with this form, on these expressions; its number in the tree comes later
abbrev pub put : ExprBuilder → Place → ExprKind → List Expr → Option ExprBuilder
put s place kind rest = Some (with_exprs s (AnExpr 0 place kind ∷ rest))

abbrev pub in_patterns : ExprBuilder → Option (List Part) → Option ExprBuilder
in_patterns s None = None
in_patterns s (Some parts) = Some (state parts s.exprs s.fields s.alts s.stmts s.binds)

-- the last two expressions become one
abbrev pub of_two : ExprBuilder → (Expr → Expr → ExprKind) → Place → Option ((Expr × Expr) × List Expr) → Option ExprBuilder
of_two s whole place None = None
of_two s whole place (Some two) = put s place (whole two.0.0 two.0.1) two.1

-- the last three expressions become a choice
abbrev pub of_if : ExprBuilder → Place → List Expr → Option ExprBuilder
of_if s place (b ∷ a ∷ c ∷ rest) = put s place (tree.If c a b) rest
of_if s place _ = None

abbrev pub of_select : ExprBuilder → Place → Name → List Expr → Option ExprBuilder
of_select s place field (e ∷ rest) = put s place (tree.Select e field) rest
of_select s place field [] = None

abbrev pub of_run : ExprBuilder → Place → Option (Run Expr) → Option ExprBuilder
of_run s place None = None
of_run s place (Some all) = put s place (tree.Run (exprs all.0.0) (exprs all.0.1)) all.1

abbrev pub of_lambda : ExprBuilder → Place → List Expr → Option (List Pat × List Part) → Option ExprBuilder
of_lambda s place (e ∷ rest) (Some pats) = Some (state pats.1 (AnExpr 0 place (tree.Lambda pats.0 e) ∷ rest) s.fields s.alts s.stmts s.binds)
of_lambda s place _ _ = None

abbrev pub of_let : ExprBuilder → Place → List Expr → Option (List Bind × List Bind) → Option ExprBuilder
of_let s place (e ∷ rest) (Some local) = Some (state s.pats.parts (AnExpr 0 place (tree.Let (binds local.0) e) ∷ rest) s.fields s.alts s.stmts local.1)
of_let s place _ _ = None

abbrev pub of_case : ExprBuilder → Place → List Expr → Option (List Alt × List Alt) → Option ExprBuilder
of_case s place (e ∷ rest) (Some all) = Some (state s.pats.parts (AnExpr 0 place (tree.Case e (alts all.0)) ∷ rest) s.fields all.1 s.stmts s.binds)
of_case s place _ _ = None

abbrev pub of_do : ExprBuilder → Place → Option (List Stmt × List Stmt) → Option ExprBuilder
of_do s place None = None
of_do s place (Some all) = Some (state s.pats.parts (AnExpr 0 place (tree.Do (stmts all.0)) ∷ s.exprs) s.fields s.alts all.1 s.binds)

abbrev pub of_build : ExprBuilder → Place → Name → Option (List FieldExpr × List FieldExpr) → Option ExprBuilder
of_build s place name None = None
of_build s place name (Some all) = Some (state s.pats.parts (AnExpr 0 place (tree.Build name (field_exprs all.0)) ∷ s.exprs) all.1 s.alts s.stmts s.binds)

abbrev pub of_update : ExprBuilder → Place → List Expr → Option (List FieldExpr × List FieldExpr) → Option ExprBuilder
of_update s place (e ∷ rest) (Some all) = Some (state s.pats.parts (AnExpr 0 place (tree.Update e (field_exprs all.0)) ∷ rest) all.1 s.alts s.stmts s.binds)
of_update s place _ _ = None

-- the last expression becomes the value of a field
abbrev pub of_field : ExprBuilder → Place → Name → List Expr → Option ExprBuilder
of_field s place name (e ∷ rest) = Some (state s.pats.parts rest (record { place = place; name = name; value = e } ∷ s.fields) s.alts s.stmts s.binds)
of_field s place name [] = None

-- the last pattern and the last expression become an alternative
abbrev pub of_alternative : ExprBuilder → Option (Pat × List Part) → List Expr → Option ExprBuilder
of_alternative s (Some p) (e ∷ rest) = Some (state p.1 rest s.fields (record { pat = p.0; body = e } ∷ s.alts) s.stmts s.binds)
of_alternative s _ _ = None

-- the last pattern and the last expression become a statement
abbrev pub of_take : ExprBuilder → Option (Pat × List Part) → List Expr → Option ExprBuilder
of_take s (Some p) (e ∷ rest) = Some (state p.1 rest s.fields s.alts (Take p.0 e ∷ s.stmts) s.binds)
of_take s _ _ = None

abbrev pub of_let_stmt : ExprBuilder → Option (List Bind × List Bind) → Option ExprBuilder
of_let_stmt s None = None
of_let_stmt s (Some local) = Some (state s.pats.parts s.exprs s.fields s.alts (Let local.0 ∷ s.stmts) local.1)

abbrev pub of_do_stmt : ExprBuilder → List Expr → Option ExprBuilder
of_do_stmt s (e ∷ rest) = Some (state s.pats.parts rest s.fields s.alts (Do e ∷ s.stmts) s.binds)
of_do_stmt s [] = None

-- a definition of one row
abbrev pub one_row : Name → Place → List Pat → Place → Expr → List Bind → Bind
one_row name place pats first body local = record { name = name; place = place; rows = record { pats = pats; first = first; body = body; local = binds local } ∷ [] }

abbrev pub of_row : ExprBuilder → Name → Place → Place → Option (List Pat × List Part) → List Expr → Option (List Bind × List Bind) → Option ExprBuilder
of_row s name place first (Some pats) (e ∷ rest) (Some local) = Some (state pats.1 rest s.fields s.alts s.stmts (one_row name place pats.0 first e local.0 ∷ local.1))
of_row s name place first _ _ _ = None

abbrev pub stepped : ExprBuilder → ExprNode → Option ExprBuilder
stepped s (node.Var place name) = put s place (tree.Var name) s.exprs
stepped s (node.Con place name) = put s place (tree.Con name) s.exprs
stepped s (node.Number place k) = put s place (tree.Number k) s.exprs
stepped s (node.Bits place width k) = put s place (tree.Bits width k) s.exprs
stepped s (node.Unit place) = put s place tree.Unit s.exprs
stepped s (node.Apply place) = of_two s tree.Apply place (two_off s.exprs)
stepped s (node.Run place count) = of_run s place (run_off count s.exprs [] [])
stepped s (node.Lambda place count) = of_lambda s place s.exprs (pats_off count s.pats.parts [])
stepped s (node.Let place count) = of_let s place s.exprs (off count s.binds [])
stepped s (node.If place) = of_if s place s.exprs
stepped s (node.Case place count) = of_case s place s.exprs (off count s.alts [])
stepped s (node.Do place count) = of_do s place (off count s.stmts [])
stepped s (node.Select place field) = of_select s place field s.exprs
stepped s (node.Field place name) = of_field s place name s.exprs
stepped s (node.Build place name count) = of_build s place name (off count s.fields [])
stepped s (node.Update place count) = of_update s place s.exprs (off count s.fields [])
stepped s (node.Pair place) = of_two s tree.Pair place (two_off s.exprs)
stepped s (node.Pat n) = in_patterns s (pat_stepped s.pats.parts n)
stepped s node.Alternative = of_alternative s (pat_off s.pats.parts) s.exprs
stepped s node.TakeStmt = of_take s (pat_off s.pats.parts) s.exprs
stepped s (node.LetStmt count) = of_let_stmt s (off count s.binds [])
stepped s node.DoStmt = of_do_stmt s s.exprs
stepped s (node.Row name place count first locals) = of_row s name place first (pats_off count s.pats.parts []) s.exprs (off locals s.binds [])

-- one expression, and nothing else
abbrev pub lone_expr : List Part → List Expr → List FieldExpr → List Alt → List Stmt → List Bind → Option Expr
lone_expr [] exprs [] [] [] [] = lone exprs
lone_expr _ exprs _ _ _ _ = None

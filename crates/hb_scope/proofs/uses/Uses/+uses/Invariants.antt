use Rattle.std.specs.Prelude.{◌+◌, ◌*◌}
use Rattle.hb_tree.specs.Expressions.{expr_size, exprs_size, fields_size, alts_size, stmts_size, binds_size, equations_size, equation_size}
use Rattle.hb_tree.specs.ExpressionViews.{exprs, field_exprs, alts, stmts, binds, equations}
use Rattle.hb_settle.specs.Sizes.{stmt_size}
use Rattle.hb_scope.proofs.uses.Uses.+uses.Given as goal

abbrev pub decreases-expr : goal.decreases-expr
decreases-expr l = 5 * expr_size l.e.now + 2

abbrev pub decreases-scope : goal.decreases-scope
decreases-scope l = 5 * expr_size l.e.now + 1

abbrev pub decreases-exprs : goal.decreases-exprs
decreases-exprs l = 5 * exprs_size (exprs l.all.now)

abbrev pub decreases-fields : goal.decreases-fields
decreases-fields l = 5 * fields_size (field_exprs l.all.now)

abbrev pub decreases-alts : goal.decreases-alts
decreases-alts l = 5 * alts_size (alts l.all.now)

abbrev pub decreases-stmts : goal.decreases-stmts
decreases-stmts l = 5 * stmts_size (stmts l.all.now)

abbrev pub decreases-stmt : goal.decreases-stmt
decreases-stmt l = 5 * stmt_size l.stmt.now + 4

abbrev pub decreases-block : goal.decreases-block
decreases-block l = 5 * binds_size (binds l.binds.now) + 3

abbrev pub decreases-binds : goal.decreases-binds
decreases-binds l = 5 * binds_size (binds l.all.now) + 2

abbrev pub decreases-rows : goal.decreases-rows
decreases-rows l = 5 * equations_size (equations l.all.now) + 1

abbrev pub decreases-row : goal.decreases-row
decreases-row l = 5 * equation_size l.row.now

use Rattle.std.specs.Prelude.{◌+◌, ◌*◌}
use Rattle.hb_tree.specs.Expressions.{expr_size, exprs_size, fields_size, alts_size, stmts_size, binds_size, equations_size, equation_size}
use Rattle.hb_tree.specs.ExpressionViews.{exprs, field_exprs, alts, stmts, binds, equations}
use Rattle.hb_settle.specs.Sizes.{stmt_size}
use Rattle.hb_settle.proofs.settler.Settler.+settling.Given as goal

abbrev pub decreases-expr : goal.decreases-expr
decreases-expr l = 4 * expr_size l.e.now + 2

abbrev pub decreases-form : goal.decreases-form
decreases-form l = 4 * expr_size l.e.now + 1

abbrev pub decreases-field_form : goal.decreases-field_form
decreases-field_form l = 4 * expr_size l.e.now

abbrev pub decreases-exprs : goal.decreases-exprs
decreases-exprs l = 4 * exprs_size (exprs l.all.now)

abbrev pub decreases-fields : goal.decreases-fields
decreases-fields l = 4 * fields_size (field_exprs l.all.now)

abbrev pub decreases-alts : goal.decreases-alts
decreases-alts l = 4 * alts_size (alts l.all.now)

abbrev pub decreases-stmts : goal.decreases-stmts
decreases-stmts l = 4 * stmts_size (stmts l.all.now)

abbrev pub decreases-stmt : goal.decreases-stmt
decreases-stmt l = 4 * stmt_size l.stmt.now + 3

abbrev pub decreases-binds : goal.decreases-binds
decreases-binds l = 4 * binds_size (binds l.all.now) + 2

abbrev pub decreases-rows : goal.decreases-rows
decreases-rows l = 4 * equations_size (equations l.all.now) + 1

abbrev pub decreases-row : goal.decreases-row
decreases-row l = 4 * equation_size l.row.now

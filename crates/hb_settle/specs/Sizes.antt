-- The size of a statement, of which those of a block are made.
use Rattle.std.specs.Prelude.{ℕ}
use Rattle.hb_tree.specs.Expressions.{expr_size, binds_size}
use Rattle.hb_tree.specs.ExpressionViews.{binds}
use Rattle.hb_tree.specs.declared.statement.Stmt.{Stmt}
use Rattle.hb_tree.specs.declared.statement.Stmt.TheVariants as stmt

abbrev pub stmt_size : Stmt → ℕ
stmt_size (stmt.Take p e) = expr_size e
stmt_size (stmt.Let bs) = binds_size (binds bs)
stmt_size (stmt.Do e) = expr_size e

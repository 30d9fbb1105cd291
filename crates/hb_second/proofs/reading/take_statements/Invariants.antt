use Rattle.std.proofs.Common.{◌≡◌, drop}
use Rattle.hb_tree.specs.ExpressionViews.{stmts}
use Rattle.hb_second.specs.Items.{statement_items}
use Rattle.hb_second.specs.Moves.{run, IsSmall}
use Rattle.hb_second.proofs.reading.take_statements.Given as goal

-- what is left gives from here what all give from the beginning
abbrev pub invariant-loop-statement : goal.invariant-loop-statement
invariant-loop-statement l =
    (run l.initial.reader (statement_items l.names l.around (stmts l.statements)) ≡ run l.reader (statement_items l.names l.around (stmts (drop l.statement-index l.statements)))) × IsSmall l.reader

-- The readers of expressions, of equations and of blocks of equations are exact.
use Rattle.hb_read_expressions.specs.Exactly.{ExprReaderIsExact, EquationReaderIsExact, BindsReaderIsExact}
use Rattle.hb_read_expressions.proofs.PatQuiet.{pat_laws}
use Rattle.hb_read_expressions.proofs.Alive.{expr_exact, equation_exact, binds_exact}

pub expr_reader_is_exact : ExprReaderIsExact
expr_reader_is_exact = expr_exact pat_laws

pub equation_reader_is_exact : EquationReaderIsExact
equation_reader_is_exact = equation_exact pat_laws

pub binds_reader_is_exact : BindsReaderIsExact
binds_reader_is_exact = binds_exact pat_laws

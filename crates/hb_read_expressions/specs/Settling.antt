-- Back to the head of a statement.
use Rattle.std.specs.Prelude.{◌≡◌, Option, Some, None}
use Rattle.hb_read_expressions.specs.declared.ends.StatementHead.{StatementHead}
use Rattle.hb_read_expressions.specs.declared.now.Now.TheVariants as now
use Rattle.hb_read_expressions.specs.declared.state.Core.{Core}

-- what was read last is then the statement's start, and a pattern is read
abbrev pub CutTo : Option Core → Option StatementHead → Core → Type 0
CutTo next None new = next ≡ None
CutTo next (Some head) new = (next ≡ Some new) × (new.last ≡ now.StmtPat head.begun head.place head.before)

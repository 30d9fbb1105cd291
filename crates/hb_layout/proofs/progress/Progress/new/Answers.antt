use Rattle.std.proofs.Common.{Some, ◌∙◌, []}
use Rattle.hb_layout.specs.declared.entry.Opener.TheVariants.{Other}
use Rattle.hb_layout.specs.Laid.{laid}
use Rattle.hb_layout.proofs.LaidLaws.{laid_from_start, preceded_nothing}
use Rattle.hb_layout.proofs.progress.Progress.new.Goals as goal

pub returns-clause-laid : goal.returns-clause-laid
returns-clause-laid c rest = rw (c.new.ensures.given, c.new.ensures.stack) (preceded_nothing (laid (Some Other) 0 [] rest) ∙ laid_from_start rest)

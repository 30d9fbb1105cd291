use Rattle.hb_second.proofs.ArgumentLaws.{some_binds}
use Rattle.hb_second.proofs.shapes.no_binds.Goals as goal

pub returns-in-len1-up : goal.returns-in-len1-up
returns-in-len1-up c = some_binds c.args.local.now c.in-len1-up.len_at_least

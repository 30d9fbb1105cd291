use Rattle.std.proofs.Common.{[]}
use Rattle.hb_layout.proofs.ViewLaws.{marked_none}
use Rattle.hb_layout.proofs.stack.Stack.new.Goals as goal

pub returns : goal.returns
returns c = rw (c.new.ensures.items) (marked_none [])

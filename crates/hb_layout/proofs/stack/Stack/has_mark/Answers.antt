use Rattle.std.proofs.Common.{◌∙◌, ap}
use Rattle.hb_layout.specs.Stacks.{has_mark}
use Rattle.hb_layout.proofs.ViewLaws.{has_mark_layers}
use Rattle.hb_layout.proofs.stack.Stack.has_mark.Goals as goal

pub returns : goal.returns
returns c = has_mark_layers c.self.inside.«open».items c.self.inside.due ∙ ap has_mark c.self.view_is

use Rattle.std.proofs.Common.{◌<◌, ◌∙◌, ap, sym, arith}
use Rattle.hb_layout.specs.Stacks.{has_mark}
use Rattle.hb_layout.proofs.ViewLaws.{take_mark_layers, mark_positive}
use Rattle.hb_layout.proofs.stack.Stack.take_mark.Goals as goal

pub overflow_sub-self : goal.overflow_sub-self
overflow_sub-self c =
    let h : 0 < c.self.inside.due = mark_positive c.self.inside.«open».items c.self.inside.due (ap has_mark c.self.view_is ∙ c.requires) in
    omega arith

pub returns : goal.returns
returns c = sym c.self.view_is ∙ take_mark_layers c.self.inside.«open».items c.self.inside.due (ap has_mark c.self.view_is ∙ c.requires)

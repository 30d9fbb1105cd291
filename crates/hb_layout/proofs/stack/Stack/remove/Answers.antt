use Rattle.std.proofs.Common.{◌∙◌, ap, sym, subst, length, ◌≤◌, ◌-◌}
use Rattle.hb_layout.specs.Stacks.{under}
use Rattle.hb_layout.specs.Views.{layers}
use Rattle.hb_layout.proofs.ViewLaws.{under_last, under_nothing}
use Rattle.hb_layout.proofs.StackLaws.{length_under}
use Rattle.hb_layout.proofs.stack.Stack.remove.Goals as goal

pub returns-in-Some-clause-under : goal.returns-in-Some-clause-under
returns-in-Some-clause-under c = sym (under_last c.pop.new.self.items c.in-Some.«open» c.self.inside.due) ∙ (ap (λ xs. under (layers xs c.self.inside.due)) (sym c.in-Some.ensures.items) ∙ ap under c.self.view_is)

pub returns-in-None-clause-under : goal.returns-in-None-clause-under
returns-in-None-clause-under c = under_nothing c.self.inside.«open».items c.pop.new.self.items c.self.inside.due _ c.in-None.ensures.items c.in-None.ensures.rest c.in-None.ensures.cases.0 ∙ ap under c.self.view_is

pub returns-in-Some-clause-few : goal.returns-in-Some-clause-few
returns-in-Some-clause-few c = subst (λ s. length s ≤ length c.args.self.now - 1) (sym (sym (under_last c.pop.new.self.items c.in-Some.«open» c.self.inside.due) ∙ (ap (λ xs. under (layers xs c.self.inside.due)) (sym c.in-Some.ensures.items) ∙ ap under c.self.view_is))) (length_under c.args.self.now)

pub returns-in-None-clause-few : goal.returns-in-None-clause-few
returns-in-None-clause-few c = subst (λ s. length s ≤ length c.args.self.now - 1) (sym (under_nothing c.self.inside.«open».items c.pop.new.self.items c.self.inside.due _ c.in-None.ensures.items c.in-None.ensures.rest c.in-None.ensures.cases.0 ∙ ap under c.self.view_is)) (length_under c.args.self.now)

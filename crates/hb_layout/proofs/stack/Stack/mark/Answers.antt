use Rattle.std.proofs.Common.{[], ◌∷◌, length, ◌≤◌, ◌∙◌, ap, subst, arith}
use Rattle.hb_layout.specs.Stacks.{due}
use Rattle.hb_layout.specs.Views.{layers_on}
use Rattle.hb_layout.proofs.ViewLaws.{due_at_most, marked_more}
use Rattle.hb_layout.proofs.stack.Stack.mark.Goals as goal

pub overflow_add-self : goal.overflow_add-self
overflow_add-self c =
    let bound : c.self.inside.due ≤ length c.args.self.now = subst (λ s. c.self.inside.due ≤ length s) c.self.view_is (due_at_most c.self.inside.«open».items c.self.inside.due) in
    omega arith

pub returns : goal.returns
returns c = marked_more c.self.inside.due (layers_on [] c.self.inside.«open».items) ∙ ap (λ s. due ∷ s) c.self.view_is
